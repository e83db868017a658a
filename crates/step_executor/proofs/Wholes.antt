-- Whole states, parts and jobs.
use Rattle.std.proofs.Common.{◌≡◌, ◌≢◌, ℕ, zero, suc, ◌+◌, refl, sym, ◌∙◌, ap, List, [], ◌∷◌, length, get_or, set, arith, Bool, true, false, cond, unwrap_or, ◌<◌}
use Rattle.std.specs.Prelude.{Option, Some, None, is_none, option_map, slice_get}
use Rattle.std.specs.Option.{option_map_or}
use Rattle.std.proofs.lemmas.Option.{none-some, same_Some, slice_get-get_or}
use Rattle.petri_atom.specs.Local.{Local}
use Rattle.step_core.specs.Job.{JobDefinition, worked}
use Rattle.step_core.specs.Parts.{nothing_shown, parts_from, parts_of}
use Rattle.step_executor.specs.Outstanding.{committed_by, ended_at, filled, is_out, is_part_away, parts_without, whole_of}

-- ---- parts that are filled

-- the parts of what they are filled to, without those that are away, are the parts
again-from : (others : ℕ → Local) (away : ℕ → Bool) (n : ℕ) (parts : List (Option Local)) → ((k : ℕ) (part : Option Local) → slice_get parts k ≡ Some part → away (n + k) ≡ is_none part) → parts_from away n (filled others n parts) ≡ parts
again-from others away n [] told = refl
again-from others away n (part ∷ parts) told =
    let e : n ≡ n + zero = omega arith in
    ap (λ b. cond b None (Some (unwrap_or part (others n))) ∷ parts_from away (suc n) (filled others (suc n) parts)) (ap away e ∙ told zero part refl) ∙
    ap (λ p. p ∷ parts_from away (suc n) (filled others (suc n) parts)) (each part) ∙
    ap (λ ps. part ∷ ps) (again-from others away (suc n) parts (λ k p there. ap away (omega arith) ∙ told (suc k) p there))
  where
    each : (p : Option Local) → cond (is_none p) None (Some (unwrap_or p (others n))) ≡ p
    each None = refl
    each (Some s) = refl

pub filled-again : (others : ℕ → Local) (away : ℕ → Bool) (parts : List (Option Local)) → ((n : ℕ) → is_part_away parts n ≡ away n) → parts_of away (filled others 0 parts) ≡ parts
filled-again others away parts told = again-from others away 0 parts (λ k part there.
    let e : 0 + k ≡ k = omega arith in
    ap away e ∙ sym (told k) ∙ ap (λ o. option_map_or is_none o false) there)

-- parts of a state are filled to it by the state's own
own-from : (others : ℕ → Local) (away : ℕ → Bool) (n : ℕ) (states : List Local) → ((k : ℕ) (s : Local) → away (n + k) ≡ true → slice_get states k ≡ Some s → others (n + k) ≡ s) → filled others n (parts_from away n states) ≡ states
own-from others away n [] own = refl
own-from others away n (s ∷ ss) own =
    ap (λ w. w ∷ filled others (suc n) (parts_from away (suc n) ss)) (each (away n) refl) ∙
    ap (λ ws. s ∷ ws) (own-from others away (suc n) ss (λ k t is there.
    let e : n + suc k ≡ suc n + k = omega arith in
    sym (ap others e) ∙ own (suc k) t (ap away e ∙ is) there))
  where
    each : (b : Bool) → away n ≡ b → unwrap_or (cond (away n) None (Some s)) (others n) ≡ s
    each false is = ap (λ b. unwrap_or (cond b None (Some s)) (others n)) is
    each true is =
        let e : n + zero ≡ n = omega arith in
        ap (λ b. unwrap_or (cond b None (Some s)) (others n)) is ∙ sym (ap others e) ∙ own zero s (ap away e ∙ is) refl

pub filled-own : (others : ℕ → Local) (away : ℕ → Bool) (states : List Local) → ((n : ℕ) (s : Local) → away n ≡ true → slice_get states n ≡ Some s → others n ≡ s) → filled others 0 (parts_of away states) ≡ states
filled-own others away states own = own-from others away 0 states (λ k s is there.
    let e : 0 + k ≡ k = omega arith in
    ap others e ∙ own k s (sym (ap away e) ∙ is) there)

-- one of them
filled-at-from : (others : ℕ → Local) (n : ℕ) (parts : List (Option Local)) (k : ℕ) → slice_get (filled others n parts) k ≡ option_map (λ p. unwrap_or p (others (n + k))) (slice_get parts k)
filled-at-from others n [] k = refl
filled-at-from others n (p ∷ ps) zero =
    let e : n ≡ n + zero = omega arith in
    ap (λ i. Some (unwrap_or p (others i))) e
filled-at-from others n (p ∷ ps) (suc k) =
    let e : suc n + k ≡ n + suc k = omega arith in
    filled-at-from others (suc n) ps k ∙ ap (λ i. option_map (λ q. unwrap_or q (others i)) (slice_get ps k)) e

pub filled-at : (others : ℕ → Local) (parts : List (Option Local)) (n : ℕ) → slice_get (filled others 0 parts) n ≡ option_map (λ p. unwrap_or p (others n)) (slice_get parts n)
filled-at others parts n =
    let e : 0 + n ≡ n = omega arith in
    filled-at-from others 0 parts n ∙ ap (λ i. option_map (λ p. unwrap_or p (others i)) (slice_get parts n)) e

-- two fillings are the same where they are so at each part that is away
same-from : (one other : ℕ → Local) (n : ℕ) (parts : List (Option Local)) → ((k : ℕ) → slice_get parts k ≡ Some None → one (n + k) ≡ other (n + k)) → filled one n parts ≡ filled other n parts
same-from one other n [] same = refl
same-from one other n (p ∷ ps) same =
    ap (λ w. w ∷ filled one (suc n) ps) (each p refl) ∙
    ap (λ ws. unwrap_or p (other n) ∷ ws) (same-from one other (suc n) ps (λ k there.
    let e : suc n + k ≡ n + suc k = omega arith in
    ap one e ∙ same (suc k) there ∙ sym (ap other e)))
  where
    each : (q : Option Local) → p ≡ q → unwrap_or p (one n) ≡ unwrap_or p (other n)
    each (Some s) is = ap (λ o. unwrap_or o (one n)) is ∙ sym (ap (λ o. unwrap_or o (other n)) is)
    each None is =
        let e : n ≡ n + zero = omega arith in
        ap (λ o. unwrap_or o (one n)) is ∙ ap one e ∙ same zero (ap Some is) ∙ sym (ap other e) ∙ sym (ap (λ o. unwrap_or o (other n)) is)

pub filled-same : (one other : ℕ → Local) (parts : List (Option Local)) → ((n : ℕ) → slice_get parts n ≡ Some None → one n ≡ other n) → filled one 0 parts ≡ filled other 0 parts
filled-same one other parts same = same-from one other 0 parts (λ k there.
    let e : 0 + k ≡ k = omega arith in
    ap one e ∙ same k there ∙ sym (ap other e))

-- a part that is away is put in its place
put-from : (one other : ℕ → Local) (n : ℕ) (parts : List (Option Local)) (k : ℕ) (s : Local) → slice_get parts k ≡ Some None → other (n + k) ≡ s → ((j : ℕ) → j ≢ n + k → one j ≡ other j) → filled one n (set parts k (Some s)) ≡ filled other n parts
put-from one other n [] k s there is same = absurd (none-some None there)
put-from one other n (p ∷ ps) zero s there is same =
    let e : n ≡ n + zero = omega arith in
    let none : p ≡ None = same_Some p None there in
    ap (λ w. w ∷ filled one (suc n) ps) (sym is ∙ sym (ap other e) ∙ sym (ap (λ o. unwrap_or o (other n)) none)) ∙
    ap (λ ws. unwrap_or p (other n) ∷ ws) (same-from one other (suc n) ps (λ k there_k. same (suc n + k) (λ eq. absurd (omega (arith, eq)))))
put-from one other n (p ∷ ps) (suc k) s there is same =
    let e : suc n + k ≡ n + suc k = omega arith in
    let head : one n ≡ other n = same n (λ eq. absurd (omega (arith, eq))) in
    ap (λ x. unwrap_or p x ∷ filled one (suc n) (set ps k (Some s))) head ∙
    ap (λ ws. unwrap_or p (other n) ∷ ws) (put-from one other (suc n) ps k s there (ap other e ∙ is) (λ j not. same j (λ eq. not (eq ∙ sym e))))

pub filled-put : (one other : ℕ → Local) (parts : List (Option Local)) (k : ℕ) (s : Local) → slice_get parts k ≡ Some None → other k ≡ s → ((j : ℕ) → j ≢ k → one j ≡ other j) → filled one 0 (set parts k (Some s)) ≡ filled other 0 parts
filled-put one other parts k s there is same =
    let e : 0 + k ≡ k = omega arith in
    put-from one other 0 parts k s there (ap other e ∙ is) (λ j not. same j (λ eq. not (eq ∙ sym e)))

-- the length stays
pub filled-long : (others : ℕ → Local) (n : ℕ) (parts : List (Option Local)) → length (filled others n parts) ≡ length parts
filled-long others n [] = refl
filled-long others n (p ∷ ps) = ap suc (filled-long others (suc n) ps)

-- which atoms of a state are away
parts-at-from : (away : ℕ → Bool) (n : ℕ) (states : List Local) (k : ℕ) → slice_get (parts_from away n states) k ≡ option_map (λ s. cond (away (n + k)) None (Some s)) (slice_get states k)
parts-at-from away n [] k = refl
parts-at-from away n (s ∷ ss) zero =
    let e : n ≡ n + zero = omega arith in
    ap (λ i. Some (cond (away i) None (Some s))) e
parts-at-from away n (s ∷ ss) (suc k) =
    let e : suc n + k ≡ n + suc k = omega arith in
    parts-at-from away (suc n) ss k ∙ ap (λ i. option_map (λ t. cond (away i) None (Some t)) (slice_get ss k)) e

pub parts-at : (away : ℕ → Bool) (states : List Local) (n : ℕ) → slice_get (parts_of away states) n ≡ option_map (λ s. cond (away n) None (Some s)) (slice_get states n)
parts-at away states n =
    let e : 0 + n ≡ n = omega arith in
    parts-at-from away 0 states n ∙ ap (λ i. option_map (λ s. cond (away i) None (Some s)) (slice_get states n)) e

pub away-of : (away : ℕ → Bool) (states : List Local) (n : ℕ) → (slice_get states n ≡ None → away n ≡ false) → is_part_away (parts_of away states) n ≡ away n
away-of away states n past = ap (λ o. option_map_or is_none o false) (parts-at away states n) ∙ each (slice_get states n) refl
  where
    cases : (b : Bool) (s : Local) → is_none (cond b None (Some s)) ≡ b
    cases true s = refl
    cases false s = refl

    each : (o : Option Local) → slice_get states n ≡ o → option_map_or is_none (option_map (λ s. cond (away n) None (Some s)) o) false ≡ away n
    each None none = sym (past none)
    each (Some s) some = cases (away n) s

-- ---- jobs

-- an atom that has a job is where that leaves it
pub ended-by : (jobs : List (Option JobDefinition)) (n : ℕ) (job : JobDefinition) → get_or jobs n None ≡ Some job → ended_at jobs n ≡ worked job
ended-by jobs n job is = ap (λ o. option_map_or worked o nothing_shown) is

-- the parts are those of the whole state without the atoms that have jobs
pub parts-again : (jobs : List (Option JobDefinition)) (parts : List (Option Local)) → ((n : ℕ) → is_part_away parts n ≡ is_out jobs n) → parts_without jobs (whole_of jobs parts) ≡ parts
parts-again jobs parts away = filled-again (ended_at jobs) (is_out jobs) parts away

-- ---- the committed state

-- one of its states: the part that is kept, or else the one of the present state
pub committed-at : (committed : List (Option Local)) (states : List Local) (n : ℕ) → n < length committed → slice_get (committed_by committed states) n ≡ Some (unwrap_or (get_or committed n None) (get_or states n nothing_shown))
committed-at committed states n within =
    filled-at (λ k. get_or states k nothing_shown) committed n ∙
    ap (option_map (λ p. unwrap_or p (get_or states n nothing_shown))) (slice_get-get_or committed n None within)

-- there are as many as parts
pub committed-long : (committed : List (Option Local)) (states : List Local) → length (committed_by committed states) ≡ length committed
committed-long committed states = filled-long (λ k. get_or states k nothing_shown) 0 committed
