use Rattle.std.proofs.Common.{subst, ℕ, List, length}
use Rattle.std.specs.Io.KnownBytes.{Appends}
use Rattle.std.proofs.KnownBytes.{Appends-trans}
use Rattle.plant_model.specs.System.{plant_of, digest_of}
use Rattle.text_io.specs.Printing.{Prints}
use Rattle.text_io.proofs.Leading.{printed-last}
use Rattle.image_inspection.specs.Reasons.{plant_words}
use Rattle.image_inspection.proofs.reason.print_both_texts.Goals as goal

pub returns : goal.returns
returns g c =
    let identity = c.args.identity.now in
    let begun = g.W.Write.contents c.print_text.new.writer in
    let named = g.W.Write.contents c.print_plant.new.output in
    let between = g.W.Write.contents c.print_text-2.new.writer in
    let new = g.W.Write.contents c.print_plant-2.new.output in
    let of_image : Appends begun named (plant_words identity.atoms identity.digest) =
    subst (λ (n : ℕ). Appends begun named (plant_words n identity.digest)) c.atoms.ensures.value
    (subst (λ (d : List ℕ). Appends begun named (plant_words c.atoms.result d)) c.digest.ensures c.in_ok-print_plant.ensures) in
    let of_plant : Prints c.print_plant-2.result between new (plant_words (length (plant_of c.args.system.now).atoms) (digest_of c.args.system.now)) =
    subst (λ (n : ℕ). Prints c.print_plant-2.result between new (plant_words n (digest_of c.args.system.now))) c.atom_count.ensures.atoms
    (subst (λ (d : List ℕ). Prints c.print_plant-2.result between new (plant_words c.atom_count.result d)) c.digest-2.ensures c.print_plant-2.ensures) in
    printed-last c.print_plant-2.result (g.W.Write.contents c.args.output.now) between new _ _
    (Appends-trans _ _ _ _ _ (Appends-trans _ _ _ _ _ c.in_ok-print_text.ensures of_image) c.in_ok-print_text-2.ensures) of_plant
