-- A hindrance is right, and a transition has none exactly if it is offered.
use Rattle.std.proofs.Common.{◌≡◌, ◌≢◌, ◌↔◌, ℕ, zero, suc, ◌+◌, ◌==◌, refl, sym, ◌∙◌, ap, subst, List, [], ◌∷◌, arith, ℤ, Bool, true, false, cond, not, ◌&&◌, ◌||◌}
use Rattle.std.specs.Prelude.{Option, Some, None, slice_get, option_map, is_none}
use Rattle.std.specs.List.{list_any}
use Rattle.std.specs.Option.{option_map_or, option_or}
use Rattle.std.proofs.lemmas.Bool.{and_parts, eq-eqb, false≢true}
use Rattle.std.proofs.lemmas.Option.{none-some, same_Some}
use Rattle.petri_atom.specs.Definition.{AtomDefinition, TransitionDefinition, numbers_from, offers, offers_number, offers_port}
use Rattle.petri_atom.specs.Expression.{is_true, value_of}
use Rattle.petri_atom.specs.Local.{Local, all_marked, has, is_in, value_in}
use Rattle.blocked_text.specs.Hindrance.{first_marked, first_unmarked, hindrance_of, zero_guard}
use Rattle.blocked_text.specs.Laws.{IsHindering}
use Rattle.blocked_text.specs.declared.hindrance.Hindrance.{Hindrance}
use Rattle.blocked_text.specs.declared.hindrance.Hindrance.TheVariants.{Unmarked, Marked, ZeroGuard}
use Rattle.blocked_text.proofs.Finding.{found-passes, none-fails, none-is, none-passes}
use Rattle.blocked_text.proofs.Reasoning.{zero-is}

-- the first of three is none if each of them is
none-of-guard : (a b : Option ℕ) (g : Bool) (h : Option Hindrance) → is_none h ≡ g
    → is_none (option_or (option_map Unmarked a) (option_or (option_map Marked b) h)) ≡ (is_none a && is_none b && g)
none-of-guard (Some p) b g h known = refl
none-of-guard None (Some q) g h known = refl
none-of-guard None None g h known = known

not-true : (b : Bool) → not b ≡ true → b ≡ false
not-true true known = absurd (false≢true known)
not-true false known = refl

module _ (state : Local) (t : TransitionDefinition) where
  abbrev value : ℤ
  value = value_of (value_in state.values) t.guard

  none-zero : is_none (zero_guard state.values t.guard) ≡ is_true value
  none-zero = each (is_true value)
    where
      each : (b : Bool) → is_none (cond b None (Some ZeroGuard)) ≡ b
      each true = refl
      each false = refl

  none-offered : is_none (hindrance_of state t) ≡ offers state t
  none-offered =
      none-of-guard (first_unmarked state.marking t.sources) (first_marked state.marking t.targets t.sources) (is_true value) (zero_guard state.values t.guard) none-zero ∙
      ap (λ b. b && is_none (first_marked state.marking t.targets t.sources) && is_true value) (none-fails (has state.marking) t.sources) ∙
      ap (λ b. all_marked state.marking t.sources && b && is_true value) (none-passes (λ p. has state.marking p && not (is_in t.sources p)) t.targets)

  pub none-of : (hindrance_of state t ≡ None) ↔ (offers state t ≡ true)
  none-of = (λ none. sym none-offered ∙ ap is_none none, λ offered. none-is (hindrance_of state t) (none-offered ∙ offered))

  pub right : (h : Hindrance) → hindrance_of state t ≡ Some h → IsHindering state t h
  right h known = each (first_unmarked state.marking t.sources) refl (first_marked state.marking t.targets t.sources) refl (is_true value) refl known
    where
      each : (a : Option ℕ) → first_unmarked state.marking t.sources ≡ a → (b : Option ℕ) → first_marked state.marking t.targets t.sources ≡ b → (g : Bool) → is_true value ≡ g
          → option_or (option_map Unmarked a) (option_or (option_map Marked b) (cond g None (Some ZeroGuard))) ≡ Some h → IsHindering state t h
      each (Some p) first b second g guard is =
          let found = found-passes (λ q. not (has state.marking q)) t.sources p first in
          subst (IsHindering state t) (same_Some (Unmarked p) h is) (found.0, not-true (has state.marking p) found.1)
      each None first (Some q) second g guard is =
          let found = found-passes (λ p. has state.marking p && not (is_in t.sources p)) t.targets q second in
          let passes = and_parts (has state.marking q) (not (is_in t.sources q)) found.1 in
          subst (IsHindering state t) (same_Some (Marked q) h is) (found.0, passes.0, not-true (is_in t.sources q) passes.1)
      each None first None second true guard is = absurd (none-some h is)
      each None first None second false guard is =
          subst (IsHindering state t) (same_Some ZeroGuard h is) (zero-is value (ap not guard))

-- where none of a port's transitions passes, none does at its number
none-numbered : (f : ℕ → Bool) (n : ℕ) (ts : List TransitionDefinition) (k : ℕ) (t : TransitionDefinition) → slice_get ts k ≡ Some t
    → list_any f (numbers_from n t.port ts) ≡ false → f (n + k) ≡ false
none-numbered f n [] k t there none = absurd (none-some t there)
none-numbered f n (u ∷ ts) zero t there none =
    let same : u ≡ t = same_Some u t there in
    let own : (u.port == t.port) ≡ true = eq-eqb u.port t.port (ap (λ (v : TransitionDefinition). v.port) same) in
    let here : (f n || list_any f (numbers_from (suc n) t.port ts)) ≡ false =
    sym (ap (λ b. list_any f (cond b (n ∷ numbers_from (suc n) t.port ts) (numbers_from (suc n) t.port ts))) own) ∙ none in
    ap f (let e : n + 0 ≡ n = omega arith in e) ∙ first-fails (f n) (list_any f (numbers_from (suc n) t.port ts)) here
  where
    first-fails : (a b : Bool) → (a || b) ≡ false → a ≡ false
    first-fails true b known = absurd (false≢true (sym known))
    first-fails false b known = refl
none-numbered f n (u ∷ ts) (suc k) t there none =
    ap f (let e : n + suc k ≡ suc n + k = omega arith in e) ∙
    none-numbered f (suc n) ts k t there (each (u.port == t.port) none)
  where
    each : (b : Bool) → list_any f (cond b (n ∷ numbers_from (suc n) t.port ts) (numbers_from (suc n) t.port ts)) ≡ false → list_any f (numbers_from (suc n) t.port ts) ≡ false
    each true known = last-fails (f n) (list_any f (numbers_from (suc n) t.port ts)) known
      where
        last-fails : (a b : Bool) → (a || b) ≡ false → b ≡ false
        last-fails true b known = absurd (false≢true (sym known))
        last-fails false b known = known
    each false known = known

-- each transition of a port that offers nothing has a hindrance
pub idle : (a : AtomDefinition) (state : Local) (n : ℕ) (t : TransitionDefinition) → slice_get a.transitions n ≡ Some t → offers_port a state t.port ≡ false → hindrance_of state t ≢ None
idle a state n t there none hindered =
    let fails : offers_number a state (0 + n) ≡ false = none-numbered (offers_number a state) 0 a.transitions n t there none in
    let number : 0 + n ≡ n = omega arith in
    let offered : offers_number a state n ≡ offers state t = ap (λ o. option_map_or (offers state) o false) there in
    false≢true (sym fails ∙ ap (offers_number a state) number ∙ offered ∙ (none-of state t).0 hindered)
