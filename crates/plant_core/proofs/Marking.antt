-- The marks of the records that are kept: they go on to be those of the records when a choice is fired, when all is acknowledged, and when
-- the first ones are dropped.
use Rattle.std.proofs.Common.{◌≡◌, ℕ, zero, suc, ◌+◌, ◌≤◌, ◌==◌, Bool, true, false, cond, Some, refl, sym, ◌∙◌, ap, subst, List, [], ◌∷◌, ◌++◌, length, map, take, drop, find, slice_index_or, nat_le, arith}
use Rattle.std.specs.List.{list_all, prefix_len}
use Rattle.std.specs.Option.{option_map_or}
use Rattle.std.proofs.lemmas.Bool.{and_from, and_parts, eqb-true}
use Rattle.std.proofs.lemmas.List.{drop-append-le, drop-map, drop-take, map-append, take-append-drop, take-map}
use Rattle.record_codec.specs.Fired.{FiredFields}
use Rattle.record_codec.specs.Saved.{SavedFields}
use Rattle.record_codec.specs.declared.entry.Entry.{Entry}
use Rattle.record_replay.specs.Replay.{is_included}
use Rattle.trimmer.specs.Covered.{MarkFields, is_covered, is_saved, saved_count}
use Rattle.trimmer.specs.declared.saved.SavedAt.{SavedAt}
use Rattle.trimmer.proofs.Fronts.{short_is_covered}
use Rattle.plant_image.specs.Contents.{Contents, saved_position, unsaved}
use Rattle.plant_image.specs.Standing.{AreIncluded}
use Rattle.plant_core.specs.Marks.{mark_of, marks_of, participation_in}
use Rattle.plant_core.specs.Snapshots.{known_of}

-- ---- a covered record is behind the newest state of each atom

-- how often an atom had taken part whose newest state is known
pub count-known : (slots : List SavedFields) (atom : ℕ) (none : SavedFields) → none.count ≡ 0 → saved_count (map known_of slots) atom ≡ (slice_index_or slots atom none).count
count-known [] atom none never = sym never
count-known (s ∷ slots) zero none never = refl
count-known (s ∷ slots) (suc atom) none never = count-known slots atom none never

-- the part that an atom had in a record, if all parts are saved
covered-part : (known : List SavedAt) (atom : ℕ) (es : List Entry) → list_all (is_saved known) (map participation_in es) ≡ true
    → option_map_or (λ (e : Entry). nat_le e.participation (saved_count known atom)) (find (λ (e : Entry). e.atom == atom) es) true ≡ true
covered-part known atom [] all = refl
covered-part known atom (e ∷ es) all =
    let parts = and_parts (is_saved known (participation_in e)) (list_all (is_saved known) (map participation_in es)) all in
    by parts.0 (covered-part known atom es parts.1) (e.atom == atom) refl
  where
    by : is_saved known (participation_in e) ≡ true → option_map_or (λ (x : Entry). nat_le x.participation (saved_count known atom)) (find (λ (x : Entry). x.atom == atom) es) true ≡ true
        → (b : Bool) → (e.atom == atom) ≡ b → option_map_or (λ (x : Entry). nat_le x.participation (saved_count known atom)) (cond b (Some e) (find (λ (x : Entry). x.atom == atom) es)) true ≡ true
    by here rest true is = subst (λ (n : ℕ). nat_le e.participation (saved_count known n) ≡ true) (eqb-true e.atom atom is) here
    by here rest false is = rest

covered-behind : (known : List SavedAt) (atom : ℕ) (rs : List FiredFields) → list_all (is_covered known) (marks_of rs) ≡ true → list_all (is_included atom (saved_count known atom)) rs ≡ true
covered-behind known atom [] all = refl
covered-behind known atom (r ∷ rs) all =
    let parts = and_parts (is_covered known (mark_of r)) (list_all (is_covered known) (marks_of rs)) all in
    and_from (is_included atom (saved_count known atom) r) (list_all (is_included atom (saved_count known atom)) rs)
    (covered-part known atom r.entries parts.0)
    (covered-behind known atom rs parts.1)

-- so a front that may go is behind what the slots hold
pub gone-behind : (c : Contents) (known : List SavedAt) (count : ℕ) → known ≡ map known_of c.slots → count ≤ prefix_len (is_covered known) (marks_of c.records) → AreIncluded c (take count c.records)
gone-behind c known count is few atom =
    let counted : saved_count known atom ≡ (saved_position c atom).count = ap (λ (ks : List SavedAt). saved_count ks atom) is ∙ count-known c.slots atom (unsaved atom) refl in
    let covered : list_all (is_covered known) (marks_of (take count c.records)) ≡ true =
    ap (list_all (is_covered known)) (sym (take-map mark_of count c.records)) ∙ short_is_covered (is_covered known) (marks_of c.records) count few in
    subst (λ (n : ℕ). list_all (is_included atom n) (take count c.records) ≡ true) counted (covered-behind known atom (take count c.records) covered)

-- it is no longer than all of them
pub prefix-within : {X : Type 0} (p : X → Bool) (xs : List X) → prefix_len p xs ≤ length xs
prefix-within p [] = omega arith
prefix-within p (x ∷ xs) = by (p x) (prefix-within p xs)
  where
    by : (b : Bool) → prefix_len p xs ≤ length xs → cond b (1 + prefix_len p xs) 0 ≤ suc (length xs)
    by true rest = omega (arith, rest)
    by false rest = omega arith

-- ---- one mark more, and the first marks dropped

-- the marks of the tail, with one more after them
pub tail-marked : (k : ℕ) (marks : List MarkFields) (records more : List FiredFields) (r : FiredFields) → k ≤ length marks → more ≡ records ++ r ∷ [] → drop k marks ≡ marks_of records → drop k (marks ++ mark_of r ∷ []) ≡ marks_of more
tail-marked k marks records more r within is before =
    drop-append-le k marks (mark_of r ∷ []) within ∙
    ap (λ ms. ms ++ mark_of r ∷ []) before ∙
    sym (map-append mark_of records (r ∷ [])) ∙
    ap marks_of (sym is)

-- with all of it acknowledged
pub all-marked : (k : ℕ) (marks : List MarkFields) (records news : List FiredFields) → take k marks ≡ marks_of records → drop k marks ≡ marks_of news → marks ≡ marks_of (records ++ news)
all-marked k marks records news front rest =
    sym (take-append-drop k marks) ∙
    ap (λ ms. ms ++ drop k marks) front ∙
    ap (λ ms. marks_of records ++ ms) rest ∙
    sym (map-append mark_of records news)

-- without the first ones
pub front-dropped : (count k : ℕ) (marks : List MarkFields) (records : List FiredFields) → take (count + k) marks ≡ marks_of records → take k (drop count marks) ≡ marks_of (drop count records)
front-dropped count k marks records is =
    sym (drop-take count k marks) ∙
    ap (drop count) is ∙
    drop-map mark_of count records
