-- Parts as they are kept: a local state for each atom, and the set of the atoms that are away.
use Rattle.std.proofs.Common.{◌≡◌, ◌≢◌, ℕ, zero, suc, ◌+◌, ◌*◌, ◌%◌, ◌^◌, ◌<◌, ◌≤◌, not, Bool, true, false, cond, refl, sym, ◌∙◌, ap, List, [], ◌∷◌, map, length, set, arith, ⊎_elim, eqb}
use Rattle.std.specs.Prelude.{Option, Some, None, slice_get, slice_index_or, option_map, is_none, is_some, bit_and, bit_or}
use Rattle.std.specs.Int.{bit_at, bit_not, w64}
use Rattle.std.specs.List.{list_all}
use Rattle.std.specs.Option.{option_map_or}
use Rattle.std.proofs.lemmas.Bool.{cases_eq, and_parts, eq-eqb, ne_eqb, false≢true, false_from_ne_true}
use Rattle.std.proofs.lemmas.Bool.Decides.{nat_tests}
use Rattle.std.proofs.lemmas.List.{length-set}
use Rattle.std.proofs.lemmas.Nat.{pow_pos}
use Rattle.std.proofs.lemmas.Nat.Bits.{bit_at-lt, same_from_bits, bit_at_set_same, bit_at_set_other, bit_at_clear_same, bit_at_clear_other}
use Rattle.std.proofs.lemmas.Option.{none-some, same_Some, slice_get_within}
use Rattle.petri_atom.specs.Local.{Local, has}
use Rattle.petri_atom.proofs.Sets.{has-above, has-and}
use Rattle.plant_model.proofs.ValueRows.{set-here, set-other}
use Rattle.step_core.specs.Dispatching.{ArePartsKept, state_at}
use Rattle.step_core.specs.Parts.{is_present, nothing_shown, parts_from, parts_of, shown, shown_in}

-- ---- parts by number

-- what is known of one state
abbrev pub part : Bool → Local → Option Local
part away s = cond away None (Some s)

module _ (away : ℕ → Bool) where
  pub length-parts : (k : ℕ) (states : List Local) → length (parts_from away k states) ≡ length states
  length-parts k [] = refl
  length-parts k (s ∷ states) = ap suc (length-parts (suc k) states)

  -- each part is that of the state with the same number
  parts-from-at : (k : ℕ) (states : List Local) (n : ℕ) → slice_get (parts_from away k states) n ≡ option_map (part (away (k + n))) (slice_get states n)
  parts-from-at k [] n = refl
  parts-from-at k (s ∷ states) zero =
      let e : k ≡ k + 0 = omega arith in
      ap (λ j. Some (part (away j) s)) e
  parts-from-at k (s ∷ states) (suc n) =
      let e : suc k + n ≡ k + suc n = omega arith in
      parts-from-at (suc k) states n ∙ ap (λ j. option_map (part (away j)) (slice_get states n)) e

  pub part-at : (states : List Local) (n : ℕ) → slice_get (parts_of away states) n ≡ option_map (part (away n)) (slice_get states n)
  part-at states n =
      let e : 0 + n ≡ n = omega arith in
      parts-from-at 0 states n ∙ ap (λ j. option_map (part (away j)) (slice_get states n)) e

  -- what is shown of parts is the states, where those that are away show nothing
  shown-from : (k : ℕ) (states : List Local) → ((n : ℕ) → n < length states → away (k + n) ≡ true → slice_get states n ≡ Some nothing_shown) → map shown (parts_from away k states) ≡ states
  shown-from k [] hidden = refl
  shown-from k (s ∷ states) hidden =
      let e : k ≡ k + 0 = omega arith in
      ap (λ x. x ∷ map shown (parts_from away (suc k) states)) (first (away k) (λ gone. same_Some s nothing_shown (hidden 0 (omega arith) (ap away (sym e) ∙ gone)))) ∙
      ap (λ xs. s ∷ xs) (shown-from (suc k) states (λ n below gone.
      let f : k + suc n ≡ suc k + n = omega arith in
      hidden (suc n) (omega (arith, below)) (ap away f ∙ gone)))
    where
      first : (b : Bool) → (b ≡ true → s ≡ nothing_shown) → shown (part b s) ≡ s
      first true empty = sym (empty refl)
      first false empty = refl

  -- where none is away all states are known
  all-from : ((n : ℕ) → away n ≡ false) → (k : ℕ) (states : List Local) → parts_from away k states ≡ map Some states
  all-from none k [] = refl
  all-from none k (s ∷ states) =
      ap (λ b. part b s ∷ parts_from away (suc k) states) (none k) ∙ ap (λ xs. Some s ∷ xs) (all-from none (suc k) states)

-- where one atom's state and presence change, its part does
set-from : (away other : ℕ → Bool) (k : ℕ) (states : List Local) (n : ℕ) (x : Local) → ((j : ℕ) → j < length states → j ≢ n → other (k + j) ≡ away (k + j)) → parts_from other k (set states n x) ≡ set (parts_from away k states) n (part (other (k + n)) x)
set-from away other k [] n x same = refl
set-from away other k (s ∷ states) zero x same =
    let e : k ≡ k + 0 = omega arith in
    ap (λ j. part (other j) x ∷ parts_from other (suc k) states) e ∙ ap (λ xs. part (other (k + 0)) x ∷ xs) (rest states (λ j below.
    let f : suc k + j ≡ k + suc j = omega arith in
    ap other f ∙ same (suc j) (omega (arith, below)) (λ never. absurd (omega (arith, never))) ∙ ap away (sym f)))
  where
    rest : (xs : List Local) → ((j : ℕ) → j < length xs → other (suc k + j) ≡ away (suc k + j)) → parts_from other (suc k) xs ≡ parts_from away (suc k) xs
    rest xs each = alike (suc k) xs each
      where
        alike : (i : ℕ) (ys : List Local) → ((j : ℕ) → j < length ys → other (i + j) ≡ away (i + j)) → parts_from other i ys ≡ parts_from away i ys
        alike i [] each = refl
        alike i (y ∷ ys) each =
            let e : i ≡ i + 0 = omega arith in
            ap (λ b. part b y ∷ parts_from other (suc i) ys) (ap other e ∙ each 0 (omega arith) ∙ ap away (sym e)) ∙
            ap (λ zs. part (away i) y ∷ zs) (alike (suc i) ys (λ j below.
            let f : suc i + j ≡ i + suc j = omega arith in
            ap other f ∙ each (suc j) (omega (arith, below)) ∙ ap away (sym f)))
set-from away other k (s ∷ states) (suc n) x same =
    let e : k ≡ k + 0 = omega arith in
    let f : suc k + n ≡ k + suc n = omega arith in
    ap (λ b. part b s ∷ parts_from other (suc k) (set states n x)) (ap other e ∙ same 0 (omega arith) (λ never. absurd (omega (arith, never))) ∙ ap away (sym e)) ∙
    ap (λ xs. part (away k) s ∷ xs) (set-from away other (suc k) states n x (λ j below differs.
    let g : suc k + j ≡ k + suc j = omega arith in
    ap other g ∙ same (suc j) (omega (arith, below)) (λ e. differs (omega (arith, e))) ∙ ap away (sym g))) ∙
    ap (λ j. part (away k) s ∷ set (parts_from away (suc k) states) n (part (other j) x)) f

pub set-part : (away other : ℕ → Bool) (states : List Local) (n : ℕ) (x : Local) → ((j : ℕ) → j < length states → j ≢ n → other j ≡ away j) → parts_of other (set states n x) ≡ set (parts_of away states) n (part (other n) x)
set-part away other states n x same =
    let e : 0 + n ≡ n = omega arith in
    set-from away other 0 states n x (λ j below differs.
    let f : 0 + j ≡ j = omega arith in
    ap other f ∙ same j below differs ∙ ap away (sym f)) ∙
    ap (λ j. set (parts_of away states) n (part (other j) x)) e

-- where there is no state, none is known
pub none-there : (b : Bool) (o : Option Local) → o ≡ None → cond b None o ≡ None
none-there true o none = refl
none-there false o none = none

-- ---- as they are kept

-- no atom is in the empty set
pub none-away : (n : ℕ) → has 0 n ≡ false
none-away n = has-above 0 0 n (pow_pos 0) (omega arith)

pub all-present : (states : List Local) → parts_of (has 0) states ≡ map Some states
all-present states = all-from (has 0) none-away 0 states

-- the set with one atom more, and with one less
abbrev pub gone : ℕ → ℕ → ℕ
gone away n = bit_or away (1 * 2 ^ n % 2 ^ 64)

abbrev pub come : ℕ → ℕ → ℕ
come away n = bit_and away (bit_not w64 (1 * 2 ^ n % 2 ^ 64))

module _ (away : ℕ) (states : List Local) (kept : ArePartsKept away states) where
  abbrev parts : List (Option Local)
  parts = parts_of (has away) states

  pub shows : shown_in parts ≡ states
  shows = shown-from (has away) 0 states (λ n below gone.
      let e : 0 + n ≡ n = omega arith in
      kept.hidden n (ap (has away) (sym e) ∙ gone))

  -- an atom that is away is one of the plant's
  pub within : (n : ℕ) → has away n ≡ true → n < length states
  within n gone = slice_get_within states n nothing_shown (kept.hidden n gone)

  -- an atom is away where it is in the set
  pub told-away : (n : ℕ) → option_map_or is_none (slice_get parts n) false ≡ has away n
  told-away n = ap (λ o. option_map_or is_none o false) (part-at (has away) states n) ∙ each (slice_get states n) refl
    where
      none : (b : Bool) (s : Local) → is_none (part b s) ≡ b
      none true s = refl
      none false s = refl

      each : (o : Option Local) → slice_get states n ≡ o → option_map_or is_none (option_map (part (has away n)) o) false ≡ has away n
      each None missing = sym (false_from_ne_true (has away n) (λ gone. none-some nothing_shown (sym missing ∙ kept.hidden n gone)))
      each (Some s) there = none (has away n) s

  -- no atom is away where the set is empty
  pub told-whole : (away ≡ 0) → list_all is_some parts ≡ true
  told-whole empty = ap (λ a. list_all is_some (parts_of (has a) states)) empty ∙ ap (list_all is_some) (all-present states) ∙ every states
    where
      every : (xs : List Local) → list_all is_some (map Some xs) ≡ true
      every [] = refl
      every (x ∷ xs) = every xs

  pub told-not-whole : list_all is_some parts ≡ true → away ≡ 0
  told-not-whole all = same_from_bits away 0 (λ k. same_bit (bit_at away k) (bit_at 0 k) (bit_at-lt away k) (bit_at-lt 0 k) (false_from_ne_true (has away k) (in-none k) ∙ sym (none-away k)))
    where
      same_bit : (x y : ℕ) → x < 2 → y < 2 → eqb x 1 ≡ eqb y 1 → x ≡ y
      same_bit x y p q e = grind (arith, nat_tests)

      at : (xs : List (Option Local)) (n : ℕ) → list_all is_some xs ≡ true → slice_get xs n ≡ Some None → false ≡ true
      at [] n every there = absurd (none-some None there)
      at (x ∷ xs) zero every there = sym (ap is_some (same_Some x None there)) ∙ (and_parts (is_some x) (list_all is_some xs) every).0
      at (x ∷ xs) (suc n) every there = at xs n (and_parts (is_some x) (list_all is_some xs) every).1 there

      in-none : (k : ℕ) → has away k ≡ true → ⊥
      in-none k in_set = false≢true (at parts k all (part-at (has away) states k ∙ ap (option_map (part (has away k))) (kept.hidden k in_set) ∙ ap (λ b. Some (part b nothing_shown)) in_set))

  pub whole-told : eqb away 0 ≡ list_all is_some parts
  whole-told = each (list_all is_some parts) refl
    where
      each : (b : Bool) → list_all is_some parts ≡ b → eqb away 0 ≡ b
      each true all = eq-eqb away 0 (told-not-whole all)
      each false some = ne_eqb away 0 (λ empty. false≢true (sym some ∙ told-whole empty))

  -- none is away from number 64 on
  pub none-past : (n : ℕ) → 64 ≤ n → has away n ≡ false
  none-past n past = false_from_ne_true (has away n) (λ in_set. absurd (omega (arith, within n in_set, kept.few, past)))

  -- the state of an atom that is there
  pub told-state : (n : ℕ) → state_at parts n ≡ cond (has away n) None (slice_get states n)
  told-state n = index parts n ∙ ap (λ o. option_map_or (λ p. p) o None) (part-at (has away) states n) ∙ each (has away n) (slice_get states n)
    where
      index : (xs : List (Option Local)) (i : ℕ) → slice_index_or xs i None ≡ option_map_or (λ p. p) (slice_get xs i) None
      index [] i = refl
      index (x ∷ xs) zero = refl
      index (x ∷ xs) (suc i) = index xs i

      each : (b : Bool) (o : Option Local) → option_map_or (λ p. p) (option_map (part b) o) None ≡ cond b None o
      each true None = refl
      each true (Some s) = refl
      each false None = refl
      each false (Some s) = refl

  -- an atom that is there and present has its state as its part
  pub present-part : (n : ℕ) (s : Local) → slice_get states n ≡ Some s → is_present parts n ≡ true → slice_get parts n ≡ Some (Some s)
  present-part n s there here =
      let still : has away n ≡ false = false_from_ne_true (has away n) (λ gone. false≢true (sym (ap not (told-away n ∙ gone)) ∙ here)) in
      part-at (has away) states n ∙ ap (option_map (part (has away n))) there ∙ ap (λ b. Some (part b s)) still

  -- ---- an atom leaves, or comes

  small : (n : ℕ) → n < length states → n < 64
  small n below = omega (arith, kept.few)

  pub leaves : (n : ℕ) → n < length states → parts_of (has (gone away n)) (set states n nothing_shown) ≡ set parts n None
  leaves n below =
      set-part (has away) (has (gone away n)) states n nothing_shown (λ j inside differs. ap (λ x. eqb x 1) (bit_at_set_other w64 away n (small n below) j differs)) ∙
      ap (λ b. set parts n (part b nothing_shown)) (ap (λ x. eqb x 1) (bit_at_set_same w64 away n (small n below)))

  pub left-kept : (n : ℕ) → n < length states → ArePartsKept (gone away n) (set states n nothing_shown)
  left-kept n below = record {
    few = omega (arith, length-set states n nothing_shown, kept.few);
    hidden = λ j away_then. ⊎_elim
        (λ same. ap (slice_get (set states n nothing_shown)) same ∙ set-here states n nothing_shown below)
        (λ differs. set-other states n nothing_shown j differs ∙ kept.hidden j (sym (ap (λ x. eqb x 1) (bit_at_set_other w64 away n (small n below) j differs)) ∙ away_then))
        (cases_eq j n);
  }

  pub comes : (n : ℕ) (s : Local) → n < length states → parts_of (has (come away n)) (set states n s) ≡ set parts n (Some s)
  comes n s below =
      set-part (has away) (has (come away n)) states n s (λ j inside differs. ap (λ x. eqb x 1) (bit_at_clear_other w64 away n (small n below) j (small j inside) differs)) ∙
      ap (λ b. set parts n (part b s)) (ap (λ x. eqb x 1) (bit_at_clear_same w64 away n (small n below)))

  pub come-kept : (n : ℕ) (s : Local) → n < length states → ArePartsKept (come away n) (set states n s)
  come-kept n s below = record {
    few = omega (arith, length-set states n s, kept.few);
    hidden = λ j away_then.
        let before : has away j ≡ true = (and_parts (has away j) (has (bit_not w64 (1 * 2 ^ n % 2 ^ 64)) j) (sym (has-and away (bit_not w64 (1 * 2 ^ n % 2 ^ 64)) j) ∙ away_then)).0 in
        set-other states n s j (λ same. false≢true (sym (ap (λ x. eqb x 1) (bit_at_clear_same w64 away n (small n below))) ∙ ap (has (come away n)) (sym same) ∙ away_then)) ∙ kept.hidden j before;
  }
