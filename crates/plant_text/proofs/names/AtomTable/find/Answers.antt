use Rattle.std.proofs.Common.{◌∙◌, ap, subst, ◌<◌, ℕ, length, IfSome}
use Rattle.std.proofs.lemmas.List.{length-map}
use Rattle.atom_lines.specs.Draft.{drafted}
use Rattle.atom_lines.specs.declared.draft.AtomDraft.{AtomDraft}
use Rattle.plant_text.proofs.Indexed.{place_of_atom}
use Rattle.plant_text.proofs.names.AtomTable.find.Goals as goal

pub returns-clause-first : goal.returns-clause-first
returns-clause-first c =
    let table = c.args.self.now in
    c.find.ensures.first ∙ place_of_atom table.drafts.now table.names.now c.args.name.now table.named

pub returns-clause-within : goal.returns-clause-within
returns-clause-within c =
    let table = c.args.self.now in
    subst (λ (count : ℕ). IfSome c.find.result (λ index. index < count))
    (ap length table.named ∙ length-map table.drafts.now (λ (d : AtomDraft). (drafted d).name)) c.find.ensures.within
