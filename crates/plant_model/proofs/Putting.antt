-- What the leaves of connectors on an atom offer, leaf by leaf and connector by connector.
use Rattle.std.proofs.Common.{◌≡◌, ℕ, zero, suc, ◌+◌, ◌==◌, ◌<◌, ◌≤◌, min, refl, sym, ◌∙◌, ap, List, [], ◌∷◌, ◌++◌, length, map, get_or, nat_lt, arith, Bool, true, false, not, ◌&&◌, ◌||◌, ⊎_elim, Vec, Global}
use Rattle.std.specs.Prelude.{Some, option_map, slice_get}
use Rattle.std.specs.List.{list_any}
use Rattle.std.specs.Option.{option_map_or}
use Rattle.std.proofs.Math.Bool.{or-false}
use Rattle.std.proofs.lemmas.Bool.{and_right, cases_eq, cases_lt, eq-eqb, false_from_ne_true, le-ltb, lt-ltb, ne_eqb, or_left, or_right, true≢false}
use Rattle.std.proofs.lemmas.Bool.Decides.{nat_tests}
use Rattle.std.proofs.lemmas.List.{length-map}
use Rattle.std.proofs.lemmas.List.Folds.{list_any-append}
use Rattle.std.proofs.lemmas.Option.{none-some, same_Some, slice_get-map, slice_get_past, slice_get_read}
use Rattle.petri_atom.specs.Behind.{movable_set}
use Rattle.petri_atom.specs.Definition.{AtomDefinition, enabled, offered_set}
use Rattle.petri_atom.specs.Local.{Local}
use Rattle.connector_tree.specs.Tree.{leaves}
use Rattle.connector_tree.specs.declared.tree.Port.{Port}
use Rattle.priority_filter.specs.Members.{has_bit}
use Rattle.plant_model.specs.Plant.{WireDefinition}
use Rattle.plant_model.specs.Usual.{IsPut, IsUsual, count_in, has_other, has_put, is_nothing, is_other, leaves_of}
use Rattle.plant_model.specs.Wire.{wire_of}
use Rattle.plant_model.specs.declared.usual.Put.{Put}
use Rattle.plant_model.specs.declared.usual.Usual.{Usual}
use Rattle.plant_model.specs.declared.wire.Wire.{Wire}
use Rattle.plant_model.proofs.Reaching.{below-more}

-- ---- those that pass a test, one number after the other

put-other : (x y : Bool) (k n : ℕ) → (k ≡ n → ⊥) → (x || k == n && y) ≡ x
put-other x y k n other = ap (λ e. x || e && y) (ne_eqb k n other) ∙ or-false x

put-here : (x y : Bool) (k n : ℕ) → k ≡ n → x ≡ false → (x || k == n && y) ≡ y
put-here x y k n here none = ap (λ b. b || k == n && y) none ∙ ap (λ e. e && y) (eq-eqb k n here)

not-below : (n : ℕ) → nat_lt n n ≡ false
not-below n = le-ltb n n (omega arith)

module _ (old : ℕ → Bool) (n : ℕ) (test : ℕ → Bool) (so_far : (k : ℕ) → old k ≡ (nat_lt k n && test k)) where
  -- one more was put as the test says
  pub put-more : (new : ℕ → Bool) (b : Bool) → test n ≡ b → ((k : ℕ) → new k ≡ (old k || k == n && b)) → (k : ℕ) → new k ≡ (nat_lt k (n + 1) && test k)
  put-more new b is put k =
      put k ∙
      ⊎_elim
      (λ here.
      put-here (old k) b k n here (so_far k ∙ ap (λ j. nat_lt j n && test j) here ∙ ap (λ x. x && test n) (not-below n)) ∙
      sym (ap (λ j. nat_lt j (n + 1) && test j) here ∙ ap (λ x. x && test n) (lt-ltb n (n + 1) (omega arith)) ∙ is))
      (λ other. put-other (old k) b k n other ∙ so_far k ∙ ap (λ x. x && test k) (sym (below-more k n other)))
      (cases_eq k n)

  -- one more fails
  pub none-more : test n ≡ false → (k : ℕ) → old k ≡ (nat_lt k (n + 1) && test k)
  none-more fails k =
      so_far k ∙
      ⊎_elim
      (λ here. and_right (nat_lt k n) (test k) (ap test here ∙ fails) ∙ sym (and_right (nat_lt k (n + 1)) (test k) (ap test here ∙ fails)))
      (λ other. ap (λ x. x && test k) (sym (below-more k n other)))
      (cases_eq k n)

-- none is below 0
pub none-yet : (test : ℕ → Bool) (k : ℕ) → false ≡ (nat_lt k 0 && test k)
none-yet test k = sym (ap (λ x. x && test k) (le-ltb k 0 (omega arith)))

-- past the last number none passes
pub put-all : (word : ℕ → Bool) (n : ℕ) (test : ℕ → Bool) → ((k : ℕ) → word k ≡ (nat_lt k n && test k)) → ((k : ℕ) → n ≤ k → test k ≡ false) → (k : ℕ) → word k ≡ test k
put-all word n test so_far none k =
    so_far k ∙
    ⊎_elim (λ below. ap (λ b. b && test k) (lt-ltb k n below)) (λ past. and_right (nat_lt k n) (test k) (none k past) ∙ sym (none k past)) (cases_lt k n)

-- ---- the leaves of connectors as they are lent

-- the leaves of the connector with a number
pub lent-at : {V : Type 0} (items : V → List Port) (lists : List V) (n : ℕ) (list : V) (lent : List Port) → n < length lists → list ≡ get_or lists n list → lent ≡ items list → slice_get (map items lists) n ≡ Some lent
lent-at items lists n list lent within is same =
    slice_get-map items lists n ∙ ap (option_map items) (slice_get_read lists (length lists) n list refl within is) ∙ ap Some (sym same)

-- of a list with one more at its end what that passes, and what one of the list passes, one passes
pub last-passes : {X : Type 0} (f : X → Bool) (xs : List X) (y : X) → f y ≡ true → list_any f (xs ++ y ∷ []) ≡ true
last-passes f xs y passes =
    list_any-append f xs (y ∷ []) ∙ or_right (list_any f xs) (f y || false) (or_left (f y) false passes)

pub still-passes : {X : Type 0} (f : X → Bool) (xs : List X) (y : X) → list_any f xs ≡ true → list_any f (xs ++ y ∷ []) ≡ true
still-passes f xs y passes = list_any-append f xs (y ∷ []) ∙ or_left (list_any f xs) (f y || false) passes

-- an element of what is made of a list is made of the one at its place
pub made-of : {X Y : Type 0} (f : X → Y) (xs : List X) (n : ℕ) (y : Y) → slice_get (map f xs) n ≡ Some y → (x : X) × (slice_get xs n ≡ Some x) × (f x ≡ y)
made-of f [] n y there = absurd (none-some y there)
made-of f (x ∷ xs) zero y there = (x, refl, same_Some (f x) y there)
made-of f (x ∷ xs) (suc n) y there = made-of f xs n y there

-- lists are the leaves of each connector, as they are kept and lent
pub lent-lists : (lists lent : List (Vec Port Global)) (wires lent_wires : List Wire) → lent ≡ lists → lent_wires ≡ wires → map (λ list. list.items) lists ≡ map (λ w. leaves (wire_of w).connector) lent_wires → map (λ list. list.items) lent ≡ leaves_of (map wire_of wires)
lent-lists lists lent wires lent_wires same same_wires kept =
    ap (map (λ list. list.items)) same ∙ kept ∙ ap (map (λ w. leaves (wire_of w).connector)) same_wires ∙ both_ways wires
  where
    both_ways : (ws : List Wire) → map (λ w. leaves (wire_of w).connector) ws ≡ leaves_of (map wire_of ws)
    both_ways [] = refl
    both_ways (w ∷ ws) = ap (λ ps. leaves (wire_of w).connector ∷ ps) (both_ways ws)

-- so there are as many, and each is of a wire
pub as-many-lists : (lent : List (Vec Port Global)) (wires : List Wire) → map (λ list. list.items) lent ≡ leaves_of (map wire_of wires) → length lent ≡ length wires
as-many-lists lent wires are =
    sym (length-map lent (λ list. list.items)) ∙ ap length are ∙ length-map (map wire_of wires) (λ w. leaves w.connector) ∙ length-map wires wire_of

pub of-wires : (all : List (List Port)) (wires : List WireDefinition) → all ≡ leaves_of wires → (k : ℕ) (ps : List Port) → slice_get all k ≡ Some ps → (w : WireDefinition) × (slice_get wires k ≡ Some w) × (leaves w.connector ≡ ps)
of-wires all wires are k ps there = made-of (λ w. leaves w.connector) wires k ps (ap (λ xs. slice_get xs k) (sym are) ∙ there)

-- ---- numbers that are other ones

-- what none of a list passes, the one with a number does not pass
none-passes : {X : Type 0} (f : X → Bool) (xs : List X) (k : ℕ) (x : X) → list_any f xs ≡ false → slice_get xs k ≡ Some x → f x ≡ false
none-passes {X = X} f xs k x none there =
    false_from_ne_true (f x) (λ passes. true≢false (sym (any-at f xs k x there passes) ∙ none))
  where
    any-at : (f : X → Bool) (xs : List X) (k : ℕ) (x : X) → slice_get xs k ≡ Some x → f x ≡ true → list_any f xs ≡ true
    any-at f [] k x there passes = absurd (none-some x there)
    any-at f (y ∷ ys) zero x there passes = or_left (f y) (list_any f ys) (ap f (same_Some y x there) ∙ passes)
    any-at f (y ∷ ys) (suc k) x there passes = or_right (f y) (list_any f ys) (any-at f ys k x there passes)

same-unless : (x y : ℕ) → not (x == y) ≡ false → x ≡ y
same-unless x y same = grind (arith, nat_tests)

whole-number : (x y : ℕ) → x ≤ 128 → y ≤ 128 → min x 255 ≡ min y 255 → x ≡ y
whole-number x y small other same = grind arith

some-number : (x y : ℕ) → min x 1 ≡ min y 1 → (x == 0) ≡ (y == 0)
some-number x y same = grind (arith, nat_tests)

-- no connector past the last has another number
pub no-other : (most atom : ℕ) (old new : List ℕ) (all : List (List Port)) (k : ℕ) → length all ≤ k → has_other most atom old new all k ≡ false
no-other most atom old new all k past = ap (λ o. option_map_or (list_any (is_other most atom old new)) o false) (slice_get_past all k past)

-- a connector that has none has the same number at each leaf on the atom
same-number : (most atom : ℕ) (old new : List ℕ) (all : List (List Port)) (k leaf : ℕ) (ps : List Port) (p : Port) → has_other most atom old new all k ≡ false → slice_get all k ≡ Some ps → slice_get ps leaf ≡ Some p → p.atom ≡ atom → min (count_in new p.port) most ≡ min (count_in old p.port) most
same-number most atom old new all k leaf ps p none there at own =
    same-unless _ _
    (sym (ap (λ b. b && not (min (count_in new p.port) most == min (count_in old p.port) most)) (eq-eqb p.atom atom own)) ∙
    none-passes (is_other most atom old new) ps leaf p (sym (ap (λ o. option_map_or (list_any (is_other most atom old new)) o false) there) ∙ none) at)

-- what a firing changes is so, if its parts are
pub is-usual : (a : AtomDefinition) (all : List (List Port)) (atom : ℕ) (u : Usual) (old : List ℕ)
    → ((state : Local) → state.marking ≡ u.places → movable_set a state ≡ u.after)
    → ((state : Local) → state.marking ≡ u.places → offered_set a state ≡ u.after)
    → ((s : Local) → u.before ≡ offered_set a s → (port : ℕ) → count_in old port ≡ length (enabled a s port))
    → ((port : ℕ) → count_in old port ≤ 128)
    → ((s : Local) → u.after ≡ offered_set a s → (port : ℕ) → count_in u.counts port ≡ length (enabled a s port))
    → ((port : ℕ) → length a.ports ≤ port → count_in u.counts port ≡ 0)
    → ((port : ℕ) → count_in u.counts port ≤ 128)
    → ((k : ℕ) → has_bit u.heavy k ≡ has_other 255 atom old u.counts all k)
    → ((k : ℕ) → has_bit u.dirty k ≡ has_other 1 atom old u.counts all k)
    → ((k : ℕ) → k < length all → has_bit u.heavy k ≡ true → has_put u.puts.items k ≡ true)
    → ((n : ℕ) (p : Put) → slice_get u.puts.items n ≡ Some p → IsPut all atom u.counts p)
    → IsUsual a all atom u
is-usual a all atom u old moves offers counted old_few counts past few heavy dirty each right = record {
  movable = moves;
  offered = offers;
  counts = λ s port is. counts s is port;
  past = past;
  few = few;
  heavy = λ k leaf ps p s clear there at own before. whole-number _ _ (few p.port) (old_few p.port) (same-number 255 atom old u.counts all k leaf ps p (sym (heavy k) ∙ clear) there at own) ∙ counted s before p.port;
  dirty = λ k leaf ps p s clear there at own before. some-number _ _ (same-number 1 atom old u.counts all k leaf ps p (sym (dirty k) ∙ clear) there at own) ∙ ap is_nothing (counted s before p.port);
  within = λ k beyond. (dirty k ∙ no-other 1 atom old u.counts all k beyond, heavy k ∙ no-other 255 atom old u.counts all k beyond);
  put = λ k bit. ⊎_elim (λ below. each k below bit) (λ beyond. absurd (true≢false (sym bit ∙ heavy k ∙ no-other 255 atom old u.counts all k beyond))) (cases_lt k (length all));
  right = right;
}
