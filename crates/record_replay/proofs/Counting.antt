-- How often each atom has taken part.
use Rattle.std.proofs.Common.{◌≡◌, ◌≢◌, ◌+◌, ◌==◌, ◌<◌, ◌≤◌, ℕ, zero, suc, refl, sym, ◌∙◌, ap, subst, List, [], ◌∷◌, ◌++◌, length, take, get_or, get_or-take, length-take-le, set, arith, All, cond, Option, Some, None, find}
use Rattle.std.specs.List.Sorted.{IsStrictlyIncreasing}
use Rattle.std.specs.Option.{option_map_or, option_or}
use Rattle.std.proofs.lemmas.Bool.{eq-eqb, ne_eqb}
use Rattle.std.proofs.lemmas.List.{get_or-map, length-map, take_more}
use Rattle.std.proofs.lemmas.List.Kept.{AllPairs-from_increasing}
use Rattle.std.proofs.lemmas.List.Elements.{All-nil, All-cons, All-head, All-tail}
use Rattle.std.proofs.lemmas.List.Folds.{find-append}
use Rattle.plant_model.specs.Firing.{FiringDefinition}
use Rattle.plant_model.specs.Laws.{atoms_of}
use Rattle.plant_model.specs.declared.choice.Move.{Move}
use Rattle.plant_model.proofs.ByAtom.{none-of}
use Rattle.record_replay.specs.Records.{count_of, counted_by, counted_from, counts_after, counts_after_all}

module _ (moves : List Move) where
  -- of an atom that is counted, by its number
  counted-entry-from : (n i : ℕ) (counts : List ℕ) → i < length counts → count_of (counted_from moves n counts) i ≡ counted_by moves (n + i) (count_of counts i)
  counted-entry-from n i [] within = absurd (omega arith)
  counted-entry-from n zero (k ∷ ks) within =
      let e : n ≡ n + zero = omega arith in
      ap (λ (j : ℕ). counted_by moves j k) e
  counted-entry-from n (suc i) (k ∷ ks) within =
      let e : suc n + i ≡ n + suc i = omega arith in
      let inside : i < length ks = omega arith in
      counted-entry-from (suc n) i ks inside ∙ ap (λ (j : ℕ). counted_by moves j (count_of ks i)) e

  pub counted-entry : (i : ℕ) (counts : List ℕ) → i < length counts → count_of (counted_from moves 0 counts) i ≡ counted_by moves i (count_of counts i)
  counted-entry i counts within =
      let e : 0 + i ≡ i = omega arith in
      counted-entry-from 0 i counts within ∙ ap (λ (j : ℕ). counted_by moves j (count_of counts i)) e

  -- as many are counted as before
  pub length-counted : (n : ℕ) (counts : List ℕ) → length (counted_from moves n counts) ≡ length counts
  length-counted n [] = refl
  length-counted n (k ∷ ks) = ap suc (length-counted (suc n) ks)

  -- a count grows by one at most
  counted-few : (n k : ℕ) → counted_by moves n k ≤ k + 1
  counted-few n k = each (find (λ m. m.atom == n) moves)
    where
      each : (o : Option Move) → option_map_or (λ m. k + 1) o k ≤ k + 1
      each None = omega arith
      each (Some m) = omega arith

  pub counted-grows : (n k : ℕ) → k ≤ counted_by moves n k
  counted-grows n k = each (find (λ m. m.atom == n) moves)
    where
      each : (o : Option Move) → k ≤ option_map_or (λ m. k + 1) o k
      each None = omega arith
      each (Some m) = omega arith

  pub counted-within : (bound n : ℕ) (counts : List ℕ) → All (λ count. count ≤ bound) counts → All (λ count. count ≤ bound + 1) (counted_from moves n counts)
  counted-within bound n [] all = All-nil (λ count. count ≤ bound + 1)
  counted-within bound n (k ∷ ks) all =
      let first : k ≤ bound = All-head (λ (count : ℕ). count ≤ bound) k ks all in
      let few : counted_by moves n k ≤ k + 1 = counted-few n k in
      All-cons (λ (count : ℕ). count ≤ bound + 1) (counted_by moves n k) (counted_from moves (suc n) ks) (omega arith)
      (counted-within bound (suc n) ks (All-tail (λ (count : ℕ). count ≤ bound) k ks all))

-- the same of choices
pub length-behind : (cs : List FiringDefinition) (counts : List ℕ) → length (counts_after_all cs counts) ≡ length counts
length-behind [] counts = refl
length-behind (c ∷ cs) counts = length-behind cs (counts_after c.moves counts) ∙ length-counted c.moves 0 counts

pub behind-within : (cs : List FiringDefinition) (counts : List ℕ) (n : ℕ) → All (λ count. count ≤ n) counts → All (λ count. count ≤ n + length cs) (counts_after_all cs counts)
behind-within [] counts n all =
    let e : n ≡ n + 0 = omega arith in
    subst (λ b. All (λ (count : ℕ). count ≤ b) counts) e all
behind-within (c ∷ cs) counts n all =
    let e : (n + 1) + length cs ≡ n + suc (length cs) = omega arith in
    subst (λ b. All (λ (count : ℕ). count ≤ b) (counts_after_all cs (counts_after c.moves counts))) e
    (behind-within cs (counts_after c.moves counts) (n + 1) (counted-within c.moves n 0 counts all))

pub behind-append : (xs ys : List FiringDefinition) (counts : List ℕ) → counts_after_all (xs ++ ys) counts ≡ counts_after_all ys (counts_after_all xs counts)
behind-append [] ys counts = refl
behind-append (x ∷ xs) ys counts = behind-append xs ys (counts_after x.moves counts)

-- one move more
module _ (moves : List Move) (m : Move) where
  -- changes no other atom's count
  counted-other : (n k : ℕ) → m.atom ≢ n → counted_by (moves ++ m ∷ []) n k ≡ counted_by moves n k
  counted-other n k other =
      ap (λ o. option_map_or (λ (j : Move). k + 1) o k) (find-append (λ (j : Move). j.atom == n) moves (m ∷ [])) ∙
      ap (λ b. option_map_or (λ (j : Move). k + 1) (option_or (find (λ j. j.atom == n) moves) (cond b (Some m) None)) k) (ne_eqb m.atom n other) ∙
      each (find (λ j. j.atom == n) moves)
    where
      each : (o : Option Move) → option_map_or (λ (j : Move). k + 1) (option_or o None) k ≡ option_map_or (λ (j : Move). k + 1) o k
      each None = refl
      each (Some j) = refl

  others-counted : (n : ℕ) (counts : List ℕ) → m.atom < n → counted_from (moves ++ m ∷ []) n counts ≡ counted_from moves n counts
  others-counted n [] below = refl
  others-counted n (k ∷ ks) below =
      let other : m.atom ≢ n = omega arith in
      let above : m.atom < suc n = omega arith in
      ap (λ j. j ∷ counted_from (moves ++ m ∷ []) (suc n) ks) (counted-other n k other) ∙
      ap (λ js. counted_by moves n k ∷ js) (others-counted (suc n) ks above)

  module _ (fresh : find (λ j. j.atom == m.atom) moves ≡ None) where
    -- and its own by one, if it had none
    counted-own : (k : ℕ) → counted_by (moves ++ m ∷ []) m.atom k ≡ k + 1
    counted-own k =
        ap (λ o. option_map_or (λ (j : Move). k + 1) o k) (find-append (λ (j : Move). j.atom == m.atom) moves (m ∷ [])) ∙
        ap (λ o. option_map_or (λ (j : Move). k + 1) (option_or o (cond (m.atom == m.atom) (Some m) None)) k) fresh ∙
        ap (λ b. option_map_or (λ (j : Move). k + 1) (cond b (Some m) None) k) (eq-eqb m.atom m.atom refl)

    pub counted-not : (k : ℕ) → counted_by moves m.atom k ≡ k
    counted-not k = ap (λ o. option_map_or (λ (j : Move). k + 1) o k) fresh

    counted-more-from : (n i : ℕ) (counts : List ℕ) → n + i ≡ m.atom → i < length counts → counted_from (moves ++ m ∷ []) n counts ≡ set (counted_from moves n counts) i (count_of (counted_from moves n counts) i + 1)
    counted-more-from n i [] its within = absurd (omega arith)
    counted-more-from n zero (k ∷ ks) its within =
        let e : m.atom ≡ n = omega arith in
        let below : m.atom < suc n = omega arith in
        let own : counted_by (moves ++ m ∷ []) n k ≡ counted_by moves n k + 1 =
        subst (λ (j : ℕ). counted_by (moves ++ m ∷ []) j k ≡ counted_by moves j k + 1) e (counted-own k ∙ ap (λ (j : ℕ). j + 1) (sym (counted-not k))) in
        ap (λ j. j ∷ counted_from (moves ++ m ∷ []) (suc n) ks) own ∙
        ap (λ js. (counted_by moves n k + 1) ∷ js) (others-counted (suc n) ks below)
    counted-more-from n (suc i) (k ∷ ks) its within =
        let e : suc n + i ≡ m.atom = omega arith in
        let other : m.atom ≢ n = omega arith in
        let inside : i < length ks = omega arith in
        ap (λ j. j ∷ counted_from (moves ++ m ∷ []) (suc n) ks) (counted-other n k other) ∙
        ap (λ js. counted_by moves n k ∷ js) (counted-more-from (suc n) i ks e inside)

    pub counted-more : (counts : List ℕ) → m.atom < length counts → counted_from (moves ++ m ∷ []) 0 counts ≡ set (counted_from moves 0 counts) m.atom (count_of (counted_from moves 0 counts) m.atom + 1)
    counted-more counts within =
        let e : 0 + m.atom ≡ m.atom = omega arith in
        counted-more-from 0 m.atom counts e within

-- no move is counted
pub counted-none : (n : ℕ) (counts : List ℕ) → counts ≡ counted_from [] n counts
counted-none n [] = refl
counted-none n (k ∷ ks) = ap (λ js. k ∷ js) (counted-none (suc n) ks)

-- moves of rising atoms, one after another
module _ (moves : List Move) (k : ℕ) (d : Move) (rising : IsStrictlyIncreasing (atoms_of moves)) (within : k < length moves) where
  -- no earlier one is of the same atom
  fresh-at : find (λ j. j.atom == (get_or moves k d).atom) (take k moves) ≡ None
  fresh-at = none-of (get_or moves k d).atom (take k moves) (λ m at same.
      let bound : k ≤ length moves = omega arith in
      let shorter : length (take k moves) ≡ k = length-take-le k moves bound in
      let before : at.0 < k = omega (arith, at.1, shorter) in
      let here : get_or moves at.0 m ≡ m = sym (get_or-take k moves at.0 m before) ∙ at.2 in
      let many : length (atoms_of moves) ≡ length moves = length-map moves (λ (j : Move). j.atom) in
      let inside : k < length (atoms_of moves) = omega arith in
      let earlier : at.0 < length moves = omega arith in
      let less : get_or (atoms_of moves) at.0 0 < get_or (atoms_of moves) k 0 = AllPairs-from_increasing (atoms_of moves) rising at.0 k 0 before inside in
      let first : get_or (atoms_of moves) at.0 0 ≡ m.atom = get_or-map (λ (j : Move). j.atom) moves at.0 m 0 earlier ∙ ap (λ (j : Move). j.atom) here in
      let second : get_or (atoms_of moves) k 0 ≡ (get_or moves k d).atom = get_or-map (λ (j : Move). j.atom) moves k d 0 within in
      omega (arith, less, first, second, same))

  -- the next one finds its atom's old count, and adds one to it
  pub counted-yet : (counts : List ℕ) → (get_or moves k d).atom < length counts → count_of (counted_from (take k moves) 0 counts) (get_or moves k d).atom ≡ count_of counts (get_or moves k d).atom
  counted-yet counts there =
      counted-entry (take k moves) (get_or moves k d).atom counts there ∙
      counted-not (take k moves) (get_or moves k d) fresh-at (count_of counts (get_or moves k d).atom)

  pub counted-next : (counts : List ℕ) → (get_or moves k d).atom < length counts → set (counted_from (take k moves) 0 counts) (get_or moves k d).atom (count_of (counted_from (take k moves) 0 counts) (get_or moves k d).atom + 1) ≡ counted_from (take (k + 1) moves) 0 counts
  counted-next counts there =
      sym (ap (λ ms. counted_from ms 0 counts) (take_more moves k d within) ∙
      counted-more (take k moves) (get_or moves k d) fresh-at counts there)
