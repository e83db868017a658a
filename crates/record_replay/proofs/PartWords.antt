-- Words of the atoms that have a part in a record, and how a replay goes from record to record by them.
use Rattle.std.proofs.Common.{◌≡◌, ◌==◌, ◌+◌, ◌<◌, ℕ, refl, sym, ◌∙◌, ap, List, [], ◌∷◌, length, get_or, take, drop, drop-cons, add-one, suc, find, Bool, true, false, cond, ◌||◌, Some, None, ⊎_elim, Ok}
use Rattle.std.specs.List.{list_any}
use Rattle.std.specs.Option.{option_map_or}
use Rattle.std.proofs.lemmas.Bool.{cases_eq, eq-eqb, ne_eqb, true≢false}
use Rattle.std.proofs.lemmas.List.Folds.{list_any_more}
use Rattle.std.proofs.lemmas.Option.{get_or_from_slice_get}
use Rattle.petri_atom.specs.Definition.{AtomDefinition}
use Rattle.petri_atom.specs.Local.{has}
use Rattle.record_codec.specs.Fired.{FiredFields}
use Rattle.record_codec.specs.declared.entry.Entry.{Entry}
use Rattle.record_replay.specs.Parts.{AreParts, has_part}
use Rattle.record_replay.specs.Replay.{Position, ok_then, replay, replay_entry, replay_record}
use Rattle.record_replay.proofs.OfPlants.{there-at}

same-test : (m n : ℕ) → (m == n) ≡ (n == m)
same-test m n = ⊎_elim (λ same. eq-eqb m n same ∙ sym (eq-eqb n m (sym same))) (λ other. ne_eqb m n other ∙ sym (ne_eqb n m (λ same. other (sym same)))) (cases_eq m n)

-- the atoms of entries, with one entry more
pub entry-more : (entries : List Entry) (k : ℕ) (d : Entry) → k < length entries → (old new : ℕ → Bool) → ((atom : ℕ) → old atom ≡ list_any (λ e. e.atom == atom) (take k entries))
    → ((atom : ℕ) → new atom ≡ (old atom || (atom == (get_or entries k d).atom))) → (atom : ℕ) → new atom ≡ list_any (λ e. e.atom == atom) (take (k + 1) entries)
entry-more entries k d within old new so_far put atom =
    put atom ∙ ap (λ b. b || (atom == (get_or entries k d).atom)) (so_far atom) ∙ ap (λ b. list_any (λ (e : Entry). e.atom == atom) (take k entries) || b) (same-test atom (get_or entries k d).atom) ∙
    sym (list_any_more (λ (e : Entry). e.atom == atom) entries k d within)

-- where no element passes a test, a search finds none
finds-none : {X : Type 0} (f : X → Bool) (xs : List X) → list_any f xs ≡ false → find f xs ≡ None
finds-none f [] none = refl
finds-none f (x ∷ xs) none = each (f x) (finds-none f xs) none
  where
    each : (b : Bool) → (list_any f xs ≡ false → find f xs ≡ None) → (b || list_any f xs) ≡ false → cond b (Some x) (find f xs) ≡ None
    each true rest never = absurd (true≢false never)
    each false rest told = rest told

-- a record that the atom has no part in is passed over
passed-over : (a : AtomDefinition) (atom saved : ℕ) (r : FiredFields) (p : Position) → has_part atom r ≡ false → replay_record a atom saved r p ≡ Ok p
passed-over a atom saved r p none = ap (λ o. option_map_or (λ e. replay_entry a saved r.number e p) o (Ok p)) (finds-none (λ (e : Entry). e.atom == atom) r.entries none)

-- a replay from a record on goes on behind it
pub goes-on : (a : AtomDefinition) (atom saved : ℕ) (rs : List FiredFields) (k : ℕ) (r : FiredFields) (p q : Position) → k < length rs → r ≡ get_or rs k r → replay_record a atom saved r p ≡ Ok q
    → replay a atom saved (drop (k + 1) rs) q ≡ replay a atom saved (drop k rs) p
goes-on a atom saved rs k r p q within read fires =
    let front : drop k rs ≡ r ∷ drop (k + 1) rs = drop-cons rs k r within ∙ ap (λ x. x ∷ drop (suc k) rs) (sym read) ∙ ap (λ n. r ∷ drop n rs) (sym (add-one k)) in
    sym (ap (λ xs. replay a atom saved xs p) front ∙ ap (λ o. ok_then o (λ s. replay a atom saved (drop (k + 1) rs) s)) fires)

-- and passes over one whose word lacks the atom
pub goes-past : (a : AtomDefinition) (atom saved : ℕ) (rs : List FiredFields) (words : List ℕ) → AreParts rs words → (k : ℕ) (p : Position) → k < length rs → has (get_or words k 0) atom ≡ false
    → replay a atom saved (drop (k + 1) rs) p ≡ replay a atom saved (drop k rs) p
goes-past a atom saved rs words parts k p within lacks =
    let there = there-at rs k within in
    goes-on a atom saved rs k there.0 p p within (sym (get_or_from_slice_get rs k there.0 there.0 there.1)) (passed-over a atom saved there.0 p (sym (parts.each k there.0 there.1 atom) ∙ lacks))
