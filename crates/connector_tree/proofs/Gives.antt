-- A test of choices of leaves that tells the sets of a fusion, built as the sets are built.
use Rattle.std.proofs.Common.{◌≡◌, ◌+◌, ℕ, Bool, true, false, ◌||◌, ◌&&◌, not, List, [], ◌∷◌, ◌++◌, length, refl, ap, sym, ◌∙◌, subst, inl, inr}
use Rattle.std.proofs.lemmas.Bool.{or_cases, or_parts, or_left, or_right, or_from, and_parts, and_from, both_ways, not-true, not_from_false}
use Rattle.connector_tree.specs.declared.tree.Port.{Port}
use Rattle.connector_tree.specs.PortSets.{Sets, holds_port, one, unions}
use Rattle.connector_tree.proofs.Sets.{Among, among_left, among_right, among_cases, among_unions, among_unions_back, same_port-refl, has-append, Inside, Apart, Agrees, agrees_left, agrees_right, agrees_both, agrees_by}

-- a test of a choice of leaves, whose first leaf has this number
abbrev pub Test : Type 0
Test = (ℕ → Bool) → ℕ → Bool

-- the test tells whether some of these leaves is chosen
pub record TellsSome (ps : List Port) (some : Test) : Type 0 where
  pub none : (f : ℕ → Bool) (at : ℕ) → Agrees f at ps (λ _. false) → some f at ≡ false
  pub back : (f : ℕ → Bool) (at : ℕ) → some f at ≡ false → Agrees f at ps (λ _. false)

-- the test tells whether the chosen ones of these leaves are one of the sets
pub record Tells (sets : Sets) (ps : List Port) (takes : Test) : Type 0 where
  pub inside : (t : List Port) → Among t sets → Inside t ps
  pub sound : (f : ℕ → Bool) (at : ℕ) (t : List Port) → Among t sets → Agrees f at ps (holds_port t) → takes f at ≡ true
  pub complete : (f : ℕ → Bool) (at : ℕ) → takes f at ≡ true → (t : List Port) × Among t sets × Agrees f at ps (holds_port t)

-- a port alone
pub tells_port : (p : Port) → Tells ((p ∷ []) ∷ []) (p ∷ []) (λ f at. f at)
tells_port p = record {
  inside = λ t m q h. elim m [ inl e ↦ subst (λ z. holds_port z q ≡ true) e h | inr k ↦ absurd k ];
  sound = λ f at t m h. elim m [
    | inl e ↦ h.0 ∙ ap (λ z. holds_port z p) e ∙ or_left _ _ (same_port-refl p)
    | inr k ↦ absurd k
  ];
  complete = λ f at h. (p ∷ [], inl refl, (h ∙ sym (or_left _ _ (same_port-refl p)), tt));
}

-- 1 + |x|
pub tells_optional : (sets : Sets) (ps : List Port) (some takes : Test) → TellsSome ps some → Tells sets ps takes → Tells (one ++ sets) ps (λ f at. takes f at || not (some f at))
tells_optional sets ps some takes s t = record {
  inside = λ u m. elim m [
    | inl e ↦ λ q h. absurd (both_ways false refl (subst (λ z. holds_port z q ≡ true) e h))
    | inr k ↦ t.inside u k
  ];
  sound = λ f at u m h. elim m [
    | inl e ↦ or_right (takes f at) _ (not_from_false _ (s.none f at (subst (λ z. Agrees f at ps (holds_port z)) e h)))
    | inr k ↦ or_left _ _ (t.sound f at u k h)
  ];
  complete = λ f at h. elim (or_cases (takes f at) _ h) [
    | inl e ↦ let r = t.complete f at e in (r.0, inr r.1, r.2)
    | inr e ↦ ([], inl refl, s.back f at (not-true _ e))
  ];
}

-- the product of nothing
pub tells_one : Tells one [] (λ f at. true)
tells_one = record {
  inside = λ t m q h. elim m [ inl e ↦ subst (λ z. holds_port z q ≡ true) e h | inr k ↦ absurd k ];
  sound = λ f at t m h. refl;
  complete = λ f at h. ([], inl refl, tt);
}

-- the sum of nothing
pub tells_none : (ps : List Port) → Tells [] ps (λ f at. false)
tells_none ps = record {
  inside = λ t m. absurd m;
  sound = λ f at t m h. absurd m;
  complete = λ f at h. absurd (both_ways false refl h);
}

-- the product of two, of which no port is in both
pub tells_unions : (xs ys : Sets) (ps qs : List Port) (takes more : Test) → Apart ps qs → Tells xs ps takes → Tells ys qs more → Tells (unions xs ys) (ps ++ qs) (λ f at. takes f at && more f (at + length ps))
tells_unions xs ys ps qs takes more apart s t = record {
  inside = λ u m q h.
      let r = among_unions_back u xs ys m in
      let part = sym (has-append r.0 r.1 q) ∙ sym (ap (λ z. holds_port z q) r.4) ∙ h in
      let whole = elim (or_cases (holds_port r.0 q) (holds_port r.1 q) part) as (λ _. (holds_port ps q || holds_port qs q) ≡ true) [
        | inl e ↦ or_left (holds_port ps q) (holds_port qs q) (s.inside r.0 r.2 q e)
        | inr e ↦ or_right (holds_port ps q) (holds_port qs q) (t.inside r.1 r.3 q e)
      ] in
      has-append ps qs q ∙ whole;
  sound = λ f at u m h.
      let r = among_unions_back u xs ys m in
      let k = subst (λ z. Agrees f at (ps ++ qs) (holds_port z)) r.4 h in
      let left = agrees_by f at ps _ (holds_port r.0) (λ p e. has-append r.0 r.1 p ∙ only_left (holds_port r.0 p) (holds_port r.1 p) (λ w. apart p e (t.inside r.1 r.3 p w))) (agrees_left f at ps qs _ k) in
      let right = agrees_by f (at + length ps) qs _ (holds_port r.1) (λ p e. has-append r.0 r.1 p ∙ only_right (holds_port r.0 p) (holds_port r.1 p) (λ w. apart p (s.inside r.0 r.2 p w) e)) (agrees_right f at ps qs _ k) in
      and_from _ _ (s.sound f at r.0 r.2 left) (t.sound f (at + length ps) r.1 r.3 right);
  complete = λ f at h.
      let parts = and_parts (takes f at) (more f (at + length ps)) h in
      let a = s.complete f at parts.0 in
      let b = t.complete f (at + length ps) parts.1 in
      let left = agrees_by f at ps (holds_port a.0) (holds_port (a.0 ++ b.0)) (λ p e. sym (has-append a.0 b.0 p ∙ only_left (holds_port a.0 p) (holds_port b.0 p) (λ w. apart p e (t.inside b.0 b.1 p w)))) a.2 in
      let right = agrees_by f (at + length ps) qs (holds_port b.0) (holds_port (a.0 ++ b.0)) (λ p e. sym (has-append a.0 b.0 p ∙ only_right (holds_port a.0 p) (holds_port b.0 p) (λ w. apart p (s.inside a.0 a.1 p w) e))) b.2 in
      (a.0 ++ b.0, among_unions a.0 b.0 xs ys a.1 b.1, agrees_both f at ps qs (holds_port (a.0 ++ b.0)) left right);
}
  where
    only_left : (x y : Bool) → (y ≡ true → ⊥) → (x || y) ≡ x
    only_left true y h = refl
    only_left false true h = absurd (h refl)
    only_left false false h = refl

    only_right : (x y : Bool) → (x ≡ true → ⊥) → (x || y) ≡ y
    only_right true y h = absurd (h refl)
    only_right false y h = refl

-- the sum of two
pub tells_sum : (xs ys : Sets) (ps : List Port) (takes other : Test) → Tells xs ps takes → Tells ys ps other → Tells (xs ++ ys) ps (λ f at. takes f at || other f at)
tells_sum xs ys ps takes other s t = record {
  inside = λ u m. elim (among_cases u xs ys m) [ inl k ↦ s.inside u k | inr k ↦ t.inside u k ];
  sound = λ f at u m h. elim (among_cases u xs ys m) [
    | inl k ↦ or_left _ _ (s.sound f at u k h)
    | inr k ↦ or_right (takes f at) _ (t.sound f at u k h)
  ];
  complete = λ f at h. elim (or_cases (takes f at) _ h) [
    | inl e ↦ let r = s.complete f at e in (r.0, among_left _ _ _ r.1, r.2)
    | inr e ↦ let r = t.complete f at e in (r.0, among_right _ xs _ r.1, r.2)
  ];
}

-- a test that always answers the same
pub tells_by : (sets : Sets) (ps : List Port) (takes other : Test) → ((f : ℕ → Bool) (at : ℕ) → takes f at ≡ other f at) → Tells sets ps takes → Tells sets ps other
tells_by sets ps takes other same t = record {
  inside = t.inside;
  sound = λ f at u m h. sym (same f at) ∙ t.sound f at u m h;
  complete = λ f at h. t.complete f at (same f at ∙ h);
}

-- some leaf of two parts
pub tells_some_both : (ps qs : List Port) (some more : Test) → TellsSome ps some → TellsSome qs more → TellsSome (ps ++ qs) (λ f at. some f at || more f (at + length ps))
tells_some_both ps qs some more s t = record {
  none = λ f at h. or_from _ _ (s.none f at (agrees_left f at ps qs _ h)) (t.none f (at + length ps) (agrees_right f at ps qs _ h));
  back = λ f at h.
      let parts = or_parts (some f at) (more f (at + length ps)) h in
      agrees_both f at ps qs _ (s.back f at parts.0) (t.back f (at + length ps) parts.1);
}
