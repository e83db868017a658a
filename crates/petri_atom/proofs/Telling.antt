-- What an entry of the table tells, transition by transition.
use Rattle.std.proofs.Common.{◌≡◌, ℕ, ◌+◌, ◌<◌, ◌≤◌, Bool, true, false, not, ◌&&◌, ◌||◌, eqb, refl, sym, ◌∙◌, ap, subst, arith, List, [], ◌∷◌, ◌++◌, length, Some, ⊎_elim}
use Rattle.std.specs.Prelude.{slice_get}
use Rattle.std.proofs.lemmas.Bool.{cases_lt, and_parts, eq-eqb, ne_eqb, false≢true}
use Rattle.std.proofs.Math.Bool.{or-false}
use Rattle.std.proofs.lemmas.Option.{same_Some}
use Rattle.petri_atom.specs.Local.{has}
use Rattle.petri_atom.specs.Definition.{PortDefinition, TransitionDefinition}
use Rattle.petri_atom.specs.Behind.{Tells, IsBehind, HasEffect, HasSameGuard, is_effect, exports_in}
use Rattle.petri_atom.specs.declared.behind.Behind.{Behind}
use Rattle.petri_atom.specs.declared.behind.Effect.{Effect}
use Rattle.petri_atom.specs.declared.behind.Effect.TheVariants.{Keeps, Makes, Stops, Asks}
use Rattle.petri_atom.proofs.Lists.{got-push}

-- the same truth values tell the same
tells-same : {fired : TransitionDefinition} {exports : List ℕ} {other : TransitionDefinition} {k m a g k' m' a' g' : Bool} → Tells fired exports other k m a g → k' ≡ k → m' ≡ m → a' ≡ a → g' ≡ g → Tells fired exports other k' m' a' g'
tells-same {k = k} {m = m} {a = a} {g = g} {k' = k'} {m' = m'} {a' = a'} {g' = g'} tells ek em ea eg = record {
  kept = λ keep. tells.kept (sym ek ∙ keep);
  made = λ make. tells.made (sym em ∙ make);
  stopped = λ none. tells.stopped (sym (ap (λ b. b || m' || a') ek ∙ ap (λ b. k || b || a') em ∙ ap (λ b. k || m || b) ea) ∙ none);
  unread = λ same. tells.unread (sym eg ∙ same);
}

-- those of an effect tell what it is
tells-effect : (fired : TransitionDefinition) (exports : List ℕ) (other : TransitionDefinition) (effect : Effect) (unread : Bool) → HasEffect effect fired other → (unread ≡ true → HasSameGuard fired exports other) → Tells fired exports other (is_effect Keeps effect) (is_effect Makes effect) (is_effect Asks effect) (not unread)
tells-effect fired exports other effect unread so same = record {
  kept = kept effect so;
  made = made effect so;
  stopped = stopped effect so;
  unread = λ none. same (true_of unread none);
}
  where
    kept : (e : Effect) → HasEffect e fired other → is_effect Keeps e ≡ true → HasEffect Keeps fired other
    kept Keeps so here = so
    kept Makes so here = absurd (false≢true here)
    kept Stops so here = absurd (false≢true here)
    kept Asks so here = absurd (false≢true here)

    made : (e : Effect) → HasEffect e fired other → is_effect Makes e ≡ true → HasEffect Makes fired other
    made Keeps so here = absurd (false≢true here)
    made Makes so here = so
    made Stops so here = absurd (false≢true here)
    made Asks so here = absurd (false≢true here)

    stopped : (e : Effect) → HasEffect e fired other → (is_effect Keeps e || is_effect Makes e || is_effect Asks e) ≡ false → HasEffect Stops fired other
    stopped Keeps so none = absurd (false≢true (sym none))
    stopped Makes so none = absurd (false≢true (sym none))
    stopped Stops so none = so
    stopped Asks so none = absurd (false≢true (sym none))

    true_of : (b : Bool) → not b ≡ false → b ≡ true
    true_of true none = refl
    true_of false none = sym none

-- four truth values that are all false
pub none_of : (k m a g : Bool) → (k || m || a || g) ≡ false → (k ≡ false) × (m ≡ false) × (a ≡ false) × (g ≡ false)
none_of k m a g none = (grind arith, grind arith, grind arith, grind arith)

all_none : (k m a g : Bool) → k ≡ false → m ≡ false → a ≡ false → g ≡ false → (k || m || a || g) ≡ false
all_none k m a g nk nm na ng = grind arith

-- a number that is put into a set changes nothing of the others, and of itself, if it was not there, all
put_other : (x y : Bool) (n number : ℕ) → (n ≡ number → ⊥) → (x || eqb n number && y) ≡ x
put_other x y n number other = ap (λ e. x || e && y) (ne_eqb n number other) ∙ or-false x

put_here : (x y : Bool) (n number : ℕ) → n ≡ number → x ≡ false → (x || eqb n number && y) ≡ y
put_here x y n number here none =
    ap (λ b. b || eqb n number && y) none ∙ ap (λ e. e && y) (eq-eqb n number here)

-- what was told of the transitions before, and of one more
module _ (ts : List TransitionDefinition) (count : ℕ) (fired : TransitionDefinition) (exports : List ℕ) (b c : Behind) (other : TransitionDefinition) (effect : Effect) (unread : Bool) where
  pub told-more : slice_get ts count ≡ Some other → HasEffect effect fired other → (unread ≡ true → HasSameGuard fired exports other) → ((n : ℕ) → has c.keep n ≡ (has b.keep n || eqb n count && is_effect Keeps effect)) → ((n : ℕ) → has c.make n ≡ (has b.make n || eqb n count && is_effect Makes effect)) → ((n : ℕ) → has c.ask n ≡ (has b.ask n || eqb n count && is_effect Asks effect)) → ((n : ℕ) → has c.again n ≡ (has b.again n || eqb n count && not unread)) → c.is_quiet ≡ (b.is_quiet && is_effect Keeps effect && unread) → IsBehind ts count fired exports b → IsBehind ts (count + 1) fired exports c
  told-more there so same keep make ask again quiet so_far = record {
    told = λ n o within here. ⊎_elim (λ low. tells-same (so_far.told n o low here) (old_keep n (apart n low)) (old_make n (apart n low)) (old_ask n (apart n low)) (old_again n (apart n low))) (λ past. let last : n ≡ count = omega arith in let is : other ≡ o = same_Some other o (sym there ∙ ap (slice_get ts) (sym last) ∙ here) in let before = none_of _ _ _ _ (so_far.within n past) in subst (λ x. Tells fired exports x (has c.keep n) (has c.make n) (has c.ask n) (has c.again n)) is (tells-same (tells-effect fired exports other effect unread so same) (keep n ∙ put_here _ _ n count last before.0) (make n ∙ put_here _ _ n count last before.1) (ask n ∙ put_here _ _ n count last before.2) (again n ∙ put_here _ _ n count last before.3))) (cases_lt n count);
    within = λ n past. let later : count ≤ n = omega arith in let before = none_of _ _ _ _ (so_far.within n later) in let other : n ≡ count → ⊥ = λ is. past_apart n past is in all_none _ _ _ _ (old_keep n other ∙ before.0) (old_make n other ∙ before.1) (old_ask n other ∙ before.2) (old_again n other ∙ before.3);
    quiet = λ all n within. let parts = and_parts (b.is_quiet && is_effect Keeps effect) unread (sym quiet ∙ all) in let first = and_parts b.is_quiet (is_effect Keeps effect) parts.0 in ⊎_elim (λ low. ap (λ x. x && not (has c.again n)) (old_keep n (apart n low)) ∙ ap (λ x. has b.keep n && not x) (old_again n (apart n low)) ∙ so_far.quiet first.0 n low) (λ past. let last : n ≡ count = omega arith in let before = none_of _ _ _ _ (so_far.within n past) in ap (λ x. x && not (has c.again n)) (keep n ∙ put_here _ _ n count last before.0 ∙ first.1) ∙ ap not (again n ∙ put_here _ _ n count last before.3 ∙ ap not parts.1)) (cases_lt n count);
  }
    where
      apart : (n : ℕ) → n < count → n ≡ count → ⊥
      apart n low same = omega arith

      past_apart : (n : ℕ) → count + 1 ≤ n → n ≡ count → ⊥
      past_apart n past same = omega arith

      old_keep : (n : ℕ) → (n ≡ count → ⊥) → has c.keep n ≡ has b.keep n
      old_keep n other = keep n ∙ put_other _ _ n count other

      old_make : (n : ℕ) → (n ≡ count → ⊥) → has c.make n ≡ has b.make n
      old_make n other = make n ∙ put_other _ _ n count other

      old_ask : (n : ℕ) → (n ≡ count → ⊥) → has c.ask n ≡ has b.ask n
      old_ask n other = ask n ∙ put_other _ _ n count other

      old_again : (n : ℕ) → (n ≡ count → ⊥) → has c.again n ≡ has b.again n
      old_again n other = again n ∙ put_other _ _ n count other

-- the entries of the first transitions, and of one more
abbrev pub AreRight : List PortDefinition → List TransitionDefinition → ℕ → List Behind → Type 0
AreRight ports ts count entries =
    (n : ℕ) (fired : TransitionDefinition) (b : Behind) → slice_get ts n ≡ Some fired → slice_get entries n ≡ Some b → IsBehind ts count fired (exports_in ports fired.port) b

pub right-more : (ports : List PortDefinition) (ts : List TransitionDefinition) (count : ℕ) (entries : List Behind) (i : ℕ) (fired : TransitionDefinition) (b : Behind) → length entries ≡ i → slice_get ts i ≡ Some fired → IsBehind ts count fired (exports_in ports fired.port) b → AreRight ports ts count entries → AreRight ports ts count (entries ++ b ∷ [])
right-more ports ts count entries i fired b number there behind so_far n t d got entry =
    ⊎_elim (λ before. so_far n t d got before)
    (λ last. let same : n ≡ i = last.0 ∙ number in let is : fired ≡ t = same_Some fired t (sym there ∙ ap (slice_get ts) (sym same) ∙ got) in subst (λ x. IsBehind ts count t (exports_in ports t.port) x) last.1 (subst (λ x. IsBehind ts count x (exports_in ports x.port) b) is behind))
    (got-push entries b n d entry)
