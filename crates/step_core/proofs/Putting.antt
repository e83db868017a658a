-- What is put of leaves of connectors is what they offer.
use Rattle.std.proofs.Common.{◌≡◌, ℕ, ◌+◌, ◌^◌, ◌<◌, ◌==◌, refl, sym, ◌∙◌, ap, List, [], ◌∷◌, ◌++◌, take, set, get_or, get_or-set_same, get_or-set_other, length, Bool, true, false, cond, not, ◌&&◌, ◌||◌, bit_and, bit_or, ⊎_elim}
use Rattle.std.specs.Prelude.{Some, slice_get}
use Rattle.std.specs.Int.{bit_not, w16}
use Rattle.std.proofs.lemmas.Bool.{cases_eq, eq-eqb, ne_eqb}
use Rattle.std.proofs.lemmas.List.{take_more}
use Rattle.std.proofs.lemmas.List.Folds.{list_any-append}
use Rattle.std.proofs.lemmas.Option.{get_or_from_slice_get, slice_get_within}
use Rattle.connector_tree.specs.Masks.{is_set}
use Rattle.petri_atom.proofs.Sets.{has-minus, has-or}
use Rattle.plant_model.specs.declared.usual.Put.{Put}
use Rattle.step_core.specs.Puts.{IsRight, is_put}

-- ---- one put after the other

-- bits that are taken out, and put in where that is right
put : (own here was : Bool) → ((was && not own) || (own && here)) ≡ cond own here was
put true true true = refl
put true true false = refl
put true false true = refl
put true false false = refl
put false here true = refl
put false here false = refl

pub put-in-word : (old mask word : ℕ) → old < 2 ^ 16 → mask < 2 ^ 16 → (right : ℕ → Bool) → ((leaf : ℕ) → is_set word leaf ≡ (is_set mask leaf && right leaf)) → (leaf : ℕ) → is_set (bit_or (bit_and old (bit_not w16 mask)) word) leaf ≡ cond (is_set mask leaf) (right leaf) (is_set old leaf)
put-in-word old mask word small other right is leaf =
    has-or (bit_and old (bit_not w16 mask)) word leaf ∙
    ap (λ x. x || is_set word leaf) (has-minus w16 old mask leaf small other) ∙
    ap (λ x. (is_set old leaf && not (is_set mask leaf)) || x) (is leaf) ∙
    put (is_set mask leaf) (right leaf) (is_set old leaf)

-- one put more
twice : (a b right was : Bool) → cond b right (cond a right was) ≡ cond (a || (b || false)) right was
twice true true right was = refl
twice true false right was = refl
twice false true right was = refl
twice false false right was = refl

pub one-put : (puts : List Put) (i : ℕ) (p : Put) → slice_get puts i ≡ Some p → (right first now next : ℕ → ℕ → Bool)
    → ((k leaf : ℕ) → now k leaf ≡ cond (is_put (take i puts) k leaf) (right k leaf) (first k leaf))
    → ((k leaf : ℕ) → next k leaf ≡ cond (p.connector == k && is_set p.mask leaf) (right k leaf) (now k leaf))
    → (k leaf : ℕ) → next k leaf ≡ cond (is_put (take (i + 1) puts) k leaf) (right k leaf) (first k leaf)
one-put puts i p there right first now next so_far put k leaf =
    put k leaf ∙ ap (cond its (right k leaf)) (so_far k leaf) ∙
    twice (is_put (take i puts) k leaf) its (right k leaf) (first k leaf) ∙
    ap (λ b. cond b (right k leaf) (first k leaf)) (sym more)
  where
    its : Bool
    its = p.connector == k && is_set p.mask leaf

    more : is_put (take (i + 1) puts) k leaf ≡ (is_put (take i puts) k leaf || (its || false))
    more =
        ap (λ ps. is_put ps k leaf) (take_more puts i p (slice_get_within puts i p there) ∙ ap (λ q. take i puts ++ q ∷ []) (get_or_from_slice_get puts i p p there)) ∙
        list_any-append (λ q. q.connector == k && is_set q.mask leaf) (take i puts) (p ∷ [])

-- the words of the leaves of connectors, in which one put is taken up
pub put-in-words : (words : List ℕ) (c : ℕ) (p : Put) (word d : ℕ) (right : ℕ → ℕ → Bool) → c < length words → c ≡ p.connector → d ≡ get_or words c 0 → d < 2 ^ 16 → p.mask < 2 ^ 16 → IsRight right word p
    → (k leaf : ℕ) → is_set (get_or (set words c (bit_or (bit_and d (bit_not w16 p.mask)) word)) k 0) leaf ≡ cond (p.connector == k && is_set p.mask leaf) (right k leaf) (is_set (get_or words k 0) leaf)
put-in-words words c p word d right within same is small other its k leaf =
    ⊎_elim
    (λ here.
    let at : p.connector ≡ k = sym same ∙ sym here in
    ap (λ j. is_set (get_or (set words c made) j 0) leaf) here ∙ ap (λ w. is_set w leaf) (get_or-set_same words c made 0 within) ∙
    put-in-word d p.mask word small other (right p.connector) its leaf ∙
    ap (λ j. cond (is_set p.mask leaf) (right j leaf) (is_set d leaf)) at ∙
    ap (λ w. cond (is_set p.mask leaf) (right k leaf) (is_set w leaf)) (is ∙ ap (λ j. get_or words j 0) (sym here)) ∙
    ap (λ b. cond (b && is_set p.mask leaf) (right k leaf) (is_set (get_or words k 0) leaf)) (sym (eq-eqb p.connector k at)))
    (λ elsewhere.
    ap (λ w. is_set w leaf) (get_or-set_other words c k made 0 elsewhere) ∙
    ap (λ b. cond (b && is_set p.mask leaf) (right k leaf) (is_set (get_or words k 0) leaf)) (sym (ne_eqb p.connector k (λ at. elsewhere (sym at ∙ sym same)))))
    (cases_eq k c)
  where
    made : ℕ
    made = bit_or (bit_and d (bit_not w16 p.mask)) word
