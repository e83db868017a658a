-- The atoms that keep the first record where it is, one after another.
use Rattle.std.proofs.Common.{◌≡◌, ◌∙◌, ap, sym, refl, subst, arith, if◌then◌else◌, ℕ, zero, suc, ◌+◌, ◌||◌, Bool, true, false, List, [], ◌++◌, append-nil, length, codes, Option, Result}
use Rattle.std.specs.Prelude.{OnOk}
use Rattle.std.specs.List.{list_any, range_with_len}
use Rattle.std.specs.Io.KnownBytes.{Appends}
use Rattle.std.proofs.KnownBytes.{Appends-trans}
use Rattle.std.proofs.Math.Bool.{or-false}
use Rattle.std.proofs.lemmas.Result.{on_ok_weaker}
use Rattle.plant_model.specs.Plant.{PlantDefinition}
use Rattle.plant_core.specs.View.{View, is_base_held_by}
use Rattle.script_lines.specs.Atoms.{atom_name}
use Rattle.blocked_text.proofs.Separating.{said-more}
use Rattle.plant_service.specs.Queries.{held_text, holder_text, holders_text, is_any_held}

or-shift : (a b c : Bool) → (a || (b || c)) ≡ ((a || b) || c)
or-shift true b c = refl
or-shift false b c = refl

-- one more number
any-more : (test : ℕ → Bool) (n : ℕ) → list_any test (range_with_len 0 (n + 1)) ≡ (list_any test (range_with_len 0 n) || test n)
any-more test n =
    ap (λ k. list_any test (range_with_len 0 k)) (let e : n + 1 ≡ suc n = omega arith in e) ∙ from 0 n ∙
    ap (λ k. list_any test (range_with_len 0 n) || test k) (let e : 0 + n ≡ n = omega arith in e)
  where
    from : (a n : ℕ) → list_any test (range_with_len a (suc n)) ≡ (list_any test (range_with_len a n) || test (a + n))
    from a zero = or-false (test a) ∙ ap test (let e : a ≡ a + 0 = omega arith in e)
    from a (suc n) =
        ap (λ t. test a || t) (from (a + 1) n) ∙ or-shift (test a) (list_any test (range_with_len (a + 1) n)) (test (a + 1 + n)) ∙
        ap (λ k. (test a || list_any test (range_with_len (a + 1) n)) || test k) (let e : a + 1 + n ≡ a + suc n = omega arith in e)

or-true : (a : Bool) → (a || true) ≡ true
or-true true = refl
or-true false = refl

module _ (plant : PlantDefinition) (v : View) (n : ℕ) where
  -- one more is held
  pub any-held : is_base_held_by n v ≡ true → true ≡ is_any_held v (n + 1)
  any-held held = sym (any-more (λ atom. is_base_held_by atom v) n ∙ ap (λ b. is_any_held v n || b) held ∙ or-true (is_any_held v n))

  -- or it is not
  pub any-free : (any : Bool) → is_base_held_by n v ≡ false → any ≡ is_any_held v n → any ≡ is_any_held v (n + 1)
  any-free any free same = same ∙ sym (any-more (λ atom. is_base_held_by atom v) n ∙ ap (λ b. is_any_held v n || b) free ∙ or-false (is_any_held v n))

  module _ (start old : Option (List ℕ)) (printed : Appends start old (holders_text plant v n)) where
    -- its name is printed
    pub printed-held : (mid new : Option (List ℕ)) → is_base_held_by n v ≡ true → Appends old mid (codes " ") → Appends mid new (atom_name plant n) → Appends start new (holders_text plant v (n + 1))
    printed-held mid new held blank name =
        subst (Appends start new) (sym (said-more (holder_text plant v) n ∙ ap (λ b. holders_text plant v n ++ (if b then codes " " ++ atom_name plant n else [])) held))
        (Appends-trans start old new (holders_text plant v n) (codes " " ++ atom_name plant n) printed (Appends-trans old mid new (codes " ") (atom_name plant n) blank name))

    pub printed-free : is_base_held_by n v ≡ false → Appends start old (holders_text plant v (n + 1))
    printed-free free =
        subst (Appends start old)
        (sym (said-more (holder_text plant v) n ∙ ap (λ b. holders_text plant v n ++ (if b then codes " " ++ atom_name plant n else [])) free ∙ append-nil (holders_text plant v n))) printed

    -- all atoms are seen
    all-held : (any : Bool) (new : Option (List ℕ)) → n ≡ length plant.atoms → any ≡ is_any_held v n → Appends old new (if any then [] else codes " -") → Appends start new (held_text plant v)
    all-held any new all same last =
        subst (λ k. Appends start new (holders_text plant v k ++ (if is_any_held v k then [] else codes " -"))) all
        (Appends-trans start old new (holders_text plant v n) (if is_any_held v n then [] else codes " -") printed (subst (λ b. Appends old new (if b then [] else codes " -")) same last))

-- the same of a result, where it is known whether any was held
pub all-told : {T E : Type 0} (result : Result T E) (plant : PlantDefinition) (v : View) (n : ℕ) (start old new : Option (List ℕ)) (any known : Bool) → Appends start old (holders_text plant v n) → n ≡ length plant.atoms
    → any ≡ is_any_held v n → any ≡ known → OnOk result (Appends old new (if known then [] else codes " -")) → OnOk result (Appends start new (held_text plant v))
all-told result plant v n start old new any known printed all same is last =
    on_ok_weaker result (λ ends. all-held plant v n start old printed known new all (sym is ∙ same) ends) last
