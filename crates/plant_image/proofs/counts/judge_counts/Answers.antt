use Rattle.std.proofs.Common.{◌≡◌, ◌+◌, ◌-◌, ◌<◌, ◌||◌, nat_lt, ℕ, Bool, true, false, List, length, map, drop, get_or, Option, ◌∙◌, ap, sym, arith}
use Rattle.std.proofs.lemmas.List.{get_or_default, length-map}
use Rattle.petri_atom.specs.Atom.{definition_of}
use Rattle.petri_atom.specs.Definition.{AtomDefinition}
use Rattle.record_replay.specs.Records.{count_of}
use Rattle.plant_model.specs.Rules.{first_of, first_fault_in}
use Rattle.record_codec.specs.Saved.{SavedFields}
use Rattle.plant_image.specs.Contents.{Contents, copied_at, last_number, most_by, most_firings, unsaved}
use Rattle.plant_image.specs.declared.counts.TheConstants.{MOST_AHEAD}
use Rattle.plant_image.specs.Faults.{fault_where, is_unaccounted}
use Rattle.plant_image.specs.Reading.{contents_in}
use Rattle.plant_image.specs.declared.fault.ImageFault.{ImageFault}
use Rattle.plant_image.specs.declared.fault.ImageFault.TheVariants.{Gap}
use Rattle.plant_image.proofs.ByAtoms.{element_at}
use Rattle.plant_image.proofs.FirstFault.{told_at}
use Rattle.plant_image.proofs.counts.judge_counts.Goals as goal

-- the whole is the answer for the atom at a number, and then for the rest
judged_here : (held : Contents) (counts : List ℕ) (atoms : List AtomDefinition) (n : ℕ) (t : Bool) → n < length atoms
    → first_fault_in (λ atom (a : AtomDefinition). fault_where (is_unaccounted held atom (count_of counts atom)) (Gap atom)) 0 atoms
    ≡ first_fault_in (λ atom (a : AtomDefinition). fault_where (is_unaccounted held atom (count_of counts atom)) (Gap atom)) n (drop n atoms)
    → is_unaccounted held n (count_of counts n) ≡ t
    → first_fault_in (λ atom (a : AtomDefinition). fault_where (is_unaccounted held atom (count_of counts atom)) (Gap atom)) 0 atoms
    ≡ first_of (fault_where t (Gap n)) (first_fault_in (λ atom (a : AtomDefinition). fault_where (is_unaccounted held atom (count_of counts atom)) (Gap atom)) (n + 1) (drop (n + 1) atoms))
judged_here held counts atoms n t within far is =
    let tell : ℕ → AtomDefinition → Option ImageFault = λ atom a. fault_where (is_unaccounted held atom (count_of counts atom)) (Gap atom) in
    let there = element_at atoms n within in
    far ∙ told_at tell atoms n there.0 there.1 ∙ ap (λ (t : Bool). first_of (fault_where t (Gap n)) (first_fault_in tell (n + 1) (drop (n + 1) atoms))) is

-- what is found of an atom is what the contents say of it
found_is : (held : Contents) (n count most last at : ℕ) (found : Bool) → found ≡ (nat_lt most count || nat_lt (last + MOST_AHEAD) at) → most ≡ most_firings held n → last ≡ last_number held → at ≡ copied_at held n
    → is_unaccounted held n count ≡ found
found_is held n count most last at found is of_most of_last of_at =
    sym (is
    ∙ ap (λ (m : ℕ). nat_lt m count || nat_lt (last + MOST_AHEAD) at) of_most
    ∙ ap (λ (l : ℕ). nat_lt (most_firings held n) count || nat_lt (l + MOST_AHEAD) at) of_last
    ∙ ap (λ (k : ℕ). nat_lt (most_firings held n) count || nat_lt (last_number held + MOST_AHEAD) k) of_at)

-- when the state that was read was copied
copied_then : (slots : List SavedFields) (n at : ℕ) (read : SavedFields) → n < length slots → read ≡ get_or slots n read → at ≡ read.at → at ≡ (get_or slots n (unsaved n)).at
copied_then slots n at read within is its = its ∙ ap (λ (s : SavedFields). s.at) (is ∙ get_or_default slots n read (unsaved n) within)

pub returns-then-is_past : goal.returns-then-is_past
returns-then-is_past c =
    let n : ℕ = c.loop-number.number in
    let held : Contents = contents_in c.args.held.now in
    let most : count_of c.most_firings-most.result n ≡ most_firings held n = c.most_firings-most.ensures n (omega arith) ∙ ap (most_by n (held.base - 1) held.base) c.deref.ensures.value in
    let last : c.args.held.now.base + c.len.result - 1 ≡ last_number held = omega (arith, c.len.ensures) in
    let at : c.at.result ≡ copied_at held n = copied_then held.slots n c.at.result c.index.result.now (omega arith) c.index.ensures c.at.ensures.value in
    judged_here held c.args.counts.now (map definition_of c.args.atoms.now) n true (omega (arith, length-map c.args.atoms.now definition_of)) c.loop-number.invariant
    (found_is held n _ _ _ _ c.is_past.result c.is_past.ensures most last at ∙ c.if-is_past.true)

pub loop-number-preserved : goal.loop-number-preserved
loop-number-preserved c =
    let n : ℕ = c.loop-number.number in
    let held : Contents = contents_in c.args.held.now in
    let most : count_of c.most_firings-most.result n ≡ most_firings held n = c.most_firings-most.ensures n (omega arith) ∙ ap (most_by n (held.base - 1) held.base) c.deref.ensures.value in
    let last : c.args.held.now.base + c.len.result - 1 ≡ last_number held = omega (arith, c.len.ensures) in
    let at : c.at.result ≡ copied_at held n = copied_then held.slots n c.at.result c.index.result.now (omega arith) c.index.ensures c.at.ensures.value in
    judged_here held c.args.counts.now (map definition_of c.args.atoms.now) n false (omega (arith, length-map c.args.atoms.now definition_of)) c.loop-number.invariant
    (found_is held n _ _ _ _ c.is_past.result c.is_past.ensures most last at ∙ c.if-is_past.false)
