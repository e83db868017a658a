use Rattle.std.proofs.Common.{◌∙◌, refl, sym, ap, Ok}
use Rattle.std.specs.Prelude.{nat_lt}
use Rattle.petri_atom.specs.declared.state.TheConstants.{MAX_PLACES}
use Rattle.atom_lines.specs.Draft.{drafted}
use Rattle.atom_lines.specs.Lookup.{place_number}
use Rattle.plant_words.specs.Reading.{check, first_name}
use Rattle.atom_lines.specs.Reading.{mark_in}
use Rattle.atom_lines.specs.Rows.{place_row}
use Rattle.plant_words.specs.declared.line_fault.LineFault.TheVariants.{Limit, Twice}
use Rattle.plant_words.proofs.Early.{check_takes_none, name_takes_none, found_before, found_last}
use Rattle.atom_lines.proofs.Early.{mark_takes_none}
use Rattle.plant_words.proofs.Exits.{passes, new_name}
use Rattle.atom_lines.proofs.draft.AtomDraft.add_place.Goals as goal

pub returns-in_err-check-clause-memory : goal.returns-in_err-check-clause-memory
returns-in_err-check-clause-memory c =
    found_before (place_row c.args.words.now (drafted c.args.self.now)) (check (nat_lt c.len.result MAX_PLACES) Limit) c.from_residual.result c.in_err-check.field-0.0 c.from_residual.ensures.1 (sym c.in_err-check.ensures) (check_takes_none (nat_lt c.len.result MAX_PLACES) Limit (λ is. absurd (cc)))

pub returns-in_err-name-clause-memory : goal.returns-in_err-name-clause-memory
returns-in_err-name-clause-memory c =
    found_before (place_row c.args.words.now (drafted c.args.self.now)) (first_name c.args.words.now) c.from_residual-in_err-name.result c.in_err-name.field-0.0 c.from_residual-in_err-name.ensures.1 (sym c.in_err-name.ensures.name) (name_takes_none c.args.words.now)

pub returns-in_err-check-2-clause-memory : goal.returns-in_err-check-2-clause-memory
returns-in_err-check-2-clause-memory c =
    found_before (place_row c.args.words.now (drafted c.args.self.now)) (check c.is_none.result Twice) c.from_residual-in_err-check-2.result c.in_err-check-2.field-0.0 c.from_residual-in_err-check-2.ensures.1 (sym c.in_err-check-2.ensures) (check_takes_none c.is_none.result Twice (λ is. absurd (cc)))

pub returns-in_err-marked-clause-memory : goal.returns-in_err-marked-clause-memory
returns-in_err-marked-clause-memory c =
    found_before (place_row c.args.words.now (drafted c.args.self.now)) (mark_in c.next_name.new.words) c.from_residual-in_err-marked.result c.in_err-marked.field-0.0 c.from_residual-in_err-marked.ensures.1 (sym c.in_err-marked.ensures) (mark_takes_none c.next_name.new.words)

pub returns-in_err-push_place-clause-memory : goal.returns-in_err-push_place-clause-memory
returns-in_err-push_place-clause-memory c =
    found_last (place_row c.args.words.now (drafted c.args.self.now)) _ c.from_residual-in_err-push_place.result
    (passes _ (ap (λ n. check (nat_lt n MAX_PLACES) Limit) (sym (c.len.ensures ∙ c.args.self.now.places.ok.0)) ∙ sym c.in_ok-check.ensures) (passes _ (sym c.in_ok-name.ensures.name)
    (passes _ (new_name (place_number (drafted c.args.self.now)) c.in_ok-name.name c.as_bytes.result.now c.find_place.result c.is_none.result Twice (Ok c.in_ok-check-2.field-0) c.as_bytes.ensures c.find_place.ensures.number c.is_none.ensures c.in_ok-check-2.ensures)
    (passes _ (ap mark_in (sym c.next_name.ensures.taken) ∙ sym c.in_ok-marked.ensures) refl))))
