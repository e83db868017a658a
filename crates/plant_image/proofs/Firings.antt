-- How often an atom can have taken part by records.
use Rattle.std.proofs.Common.{◌≡◌, ◌==◌, ◌+◌, ◌-◌, ◌<◌, ◌≤◌, ℕ, refl, sym, ◌∙◌, ap, subst, arith, List, [], ◌∷◌, ◌++◌, length, take, drop, min, find, Bool, Option, None, Some, option_map}
use Rattle.std.specs.Option.{option_map_or}
use Rattle.std.proofs.Math.Nat.{le-min, min-le_right}
use Rattle.std.proofs.lemmas.Bool.{eqb-true}
use Rattle.std.proofs.lemmas.List.{length-take-le, take-append-drop}
use Rattle.petri_atom.specs.Local.{Local}
use Rattle.plant_model.specs.Firing.{FiringDefinition}
use Rattle.plant_model.specs.Plant.{PlantDefinition}
use Rattle.plant_model.specs.Step.{next, transfer}
use Rattle.plant_model.specs.declared.choice.Move.{Move}
use Rattle.record_codec.specs.Fired.{FiredFields}
use Rattle.record_codec.specs.declared.entry.Entry.{Entry}
use Rattle.record_replay.specs.Records.{count_of, counted_by, counts_after, counts_after_all, entry_by, record_by, records_of}
use Rattle.record_replay.specs.Replay.{part_of}
use Rattle.record_replay.proofs.Counting.{counted-entry, length-counted}
use Rattle.record_replay.proofs.OnRuns.{find-made, found-in}
use Rattle.plant_image.specs.Contents.{most_at, most_by}

-- a choice counts an atom once at most
pub counted_once : (moves : List Move) (i k : ℕ) → counted_by moves i k ≤ k + 1
counted_once moves i k = by_part (find (λ (m : Move). m.atom == i) moves)
  where
    by_part : (o : Option Move) → option_map_or (λ (m : Move). k + 1) o k ≤ k + 1
    by_part None = omega arith
    by_part (Some m) = omega arith

module _ (atom : ℕ) where
  -- more before a record leaves no less after it
  most_at-grows : (r : FiredFields) (a b n : ℕ) → a ≤ b → most_at atom a n r ≤ most_at atom b n r
  most_at-grows r a b n more = by_part (part_of atom r)
    where
      by_part : (o : Option Entry) → option_map_or (λ (e : Entry). min e.participation n) o a ≤ option_map_or (λ (e : Entry). min e.participation n) o b
      by_part None = more
      by_part (Some e) = omega arith

  most_by-grows : (rs : List FiredFields) (a b n : ℕ) → a ≤ b → most_by atom a n rs ≤ most_by atom b n rs
  most_by-grows [] a b n more = more
  most_by-grows (r ∷ rs) a b n more = most_by-grows rs (most_at atom a n r) (most_at atom b n r) (n + 1) (most_at-grows r a b n more)

  -- it is no more than there were firings
  most_at-within : (r : FiredFields) (most n : ℕ) → most ≤ n - 1 → most_at atom most n r ≤ n
  most_at-within r most n few = by_part (part_of atom r)
    where
      by_part : (o : Option Entry) → option_map_or (λ (e : Entry). min e.participation n) o most ≤ n
      by_part None = omega (arith, few)
      by_part (Some e) = min-le_right e.participation n

  pub most_by-within : (rs : List FiredFields) (most n : ℕ) → most ≤ n - 1 → most_by atom most n rs ≤ n + length rs - 1
  most_by-within [] most n few = omega (arith, few)
  most_by-within (r ∷ rs) most n few =
      let here : most_at atom most n r ≤ n + 1 - 1 = omega (arith, most_at-within r most n few) in
      omega (arith, most_by-within rs (most_at atom most n r) (n + 1) here)

  -- some records after others
  pub most_by-append : (xs ys : List FiredFields) (most n : ℕ) → most_by atom most n (xs ++ ys) ≡ most_by atom (most_by atom most n xs) (n + length xs) ys
  most_by-append [] ys most n = let same : n ≡ n + 0 = omega arith in ap (λ (k : ℕ). most_by atom most k ys) same
  most_by-append (x ∷ xs) ys most n =
      let same : n + 1 + length xs ≡ n + length (x ∷ xs) = omega arith in
      most_by-append xs ys (most_at atom most n x) (n + 1) ∙ ap (λ (k : ℕ). most_by atom (most_by atom (most_at atom most n x) (n + 1) xs) k ys) same

  -- what the records from a later base on allow is no less
  pub most_by-cut : (rs : List FiredFields) (n k : ℕ) → k ≤ length rs → most_by atom (n - 1) n rs ≤ most_by atom (n + k - 1) (n + k) (drop k rs)
  most_by-cut rs n k within =
      let front : List FiredFields = take k rs in
      let many : length front ≡ k = length-take-le k rs within in
      let whole : front ++ drop k rs ≡ rs = take-append-drop k rs in
      let few : n - 1 ≤ n - 1 = omega arith in
      let before : most_by atom (n - 1) n front ≤ n + k - 1 = omega (arith, most_by-within front (n - 1) n few, many) in
      let cut : most_by atom (n - 1) n rs ≡ most_by atom (most_by atom (n - 1) n front) (n + k) (drop k rs) =
      ap (most_by atom (n - 1) n) (sym whole) ∙ most_by-append front (drop k rs) (n - 1) n ∙ ap (λ (l : ℕ). most_by atom (most_by atom (n - 1) n front) (n + l) (drop k rs)) many in
      omega (arith, cut, most_by-grows (drop k rs) (most_by atom (n - 1) n front) (n + k - 1) (n + k) before)

  module _ (plant : PlantDefinition) where
    -- the record of a choice allows what the choice counts
    choice-allowed : (states : List Local) (counts : List ℕ) (number most : ℕ) (c : FiringDefinition) → atom < length counts → count_of counts atom ≤ number → count_of counts atom ≤ most
        → count_of (counts_after c.moves counts) atom ≤ most_at atom most (number + 1) (record_by plant states counts (number + 1) c)
    choice-allowed states counts number most c within few allowed =
        let after : count_of (counts_after c.moves counts) atom ≡ counted_by c.moves atom (count_of counts atom) = counted-entry c.moves atom counts within in
        let part : part_of atom (record_by plant states counts (number + 1) c) ≡ option_map entry (find own c.moves) = find-made (λ (e : Entry). e.atom == atom) entry c.moves in
        subst (λ (k : ℕ). k ≤ most_at atom most (number + 1) (record_by plant states counts (number + 1) c)) (sym after)
        (subst (λ (o : Option Entry). counted_by c.moves atom (count_of counts atom) ≤ option_map_or allows o most) (sym part) (by_part (find own c.moves) refl))
      where
        own : Move → Bool
        own m = m.atom == atom

        entry : Move → Entry
        entry m = entry_by counts m (transfer plant states c m.atom)

        allows : Entry → ℕ
        allows e = min e.participation (number + 1)

        by_part : (o : Option Move) → find own c.moves ≡ o → option_map_or (λ (m : Move). count_of counts atom + 1) o (count_of counts atom) ≤ option_map_or allows (option_map entry o) most
        by_part None found = allowed
        by_part (Some m) found =
            let its : m.atom ≡ atom = eqb-true m.atom atom (found-in own c.moves m found).1 in
            let count : count_of counts m.atom + 1 ≡ count_of counts atom + 1 = ap (λ (k : ℕ). count_of counts k + 1) its in
            le-min (omega (arith, count)) (omega (arith, few))

    -- and the records of a run what its choices count
    pub run-allowed : (cs : List FiringDefinition) (states : List Local) (counts : List ℕ) (number most : ℕ) → atom < length counts → count_of counts atom ≤ number → count_of counts atom ≤ most
        → count_of (counts_after_all cs counts) atom ≤ most_by atom most (number + 1) (records_of plant states counts number cs)
    run-allowed [] states counts number most within few allowed = allowed
    run-allowed (c ∷ cs) states counts number most within few allowed =
        let long : atom < length (counts_after c.moves counts) = omega (arith, within, length-counted c.moves 0 counts) in
        let after : count_of (counts_after c.moves counts) atom ≡ counted_by c.moves atom (count_of counts atom) = counted-entry c.moves atom counts within in
        run-allowed cs (next plant states c) (counts_after c.moves counts) (number + 1) (most_at atom most (number + 1) (record_by plant states counts (number + 1) c)) long
        (omega (arith, after, few, counted_once c.moves atom (count_of counts atom))) (choice-allowed states counts number most c within few allowed)
