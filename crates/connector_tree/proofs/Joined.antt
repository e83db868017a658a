-- The numbers below a bound that pass a test, as candidates, made of those of two smaller bounds.
use Rattle.std.proofs.Common.{◌≡◌, ◌+◌, ◌*◌, ◌^◌, ◌<◌, ◌≤◌, ℕ, zero, suc, Bool, true, false, cond, ◌&&◌, ◌||◌, not, eqb, List, [], ◌∷◌, ◌++◌, map, filter, refl, ap, sym, ◌∙◌, arith, append_assoc}
use Rattle.std.proofs.lemmas.Bool.{ne_eqb}
use Rattle.std.specs.List.{range_with_len, All, AllByRecursion}
use Rattle.std.proofs.lemmas.List.{append-nil, map-append}
use Rattle.std.proofs.lemmas.List.Concat.{flat_map-append}
use Rattle.std.proofs.lemmas.List.Elements.{All-weaker, recursion_from_All, Contains-get_or}
use Rattle.std.proofs.Math.Nat.{suc-mul, zero-mul}
use Rattle.connector_tree.specs.declared.walk.Candidate.{Candidate}
use Rattle.connector_tree.specs.MaskLists.{tagged, none_before, choices, with_later, joined, masks_taken}
use Rattle.connector_tree.proofs.Filtered.{passing, passing-suc, passing_is}

-- none pass a test that always fails
passing_nothing : (n : ℕ) → passing (λ _. false) n ≡ []
passing_nothing zero = refl
passing_nothing (suc n) = passing-suc (λ _. false) n ∙ append-nil (passing (λ _. false) n) ∙ passing_nothing n

-- tests that answer alike on a range keep the same of it
filter_alike : (p q : ℕ → Bool) (a n : ℕ) → ((m : ℕ) → a ≤ m → m < a + n → p m ≡ q m) → filter p (range_with_len a n) ≡ filter q (range_with_len a n)
filter_alike p q a zero same = refl
filter_alike p q a (suc n) same =
    let here = same a (omega arith) (omega arith) in
    let later = filter_alike p q (a + 1) n (λ m h k. same m (omega arith) (omega arith)) in
    λ i. cond (here i) (a ∷ later i) (later i)

-- a filter of what a filter kept
pub filter_both : (p q both : ℕ → Bool) → ((n : ℕ) → both n ≡ (p n && q n)) → (ns : List ℕ) → filter q (filter p ns) ≡ filter both ns
filter_both p q both is [] = refl
filter_both p q both is (n ∷ ns) = step (p n) (filter_both p q both is ns) ∙ sym (ap (λ b. cond b (n ∷ filter both ns) (filter both ns)) (is n))
  where
    step : (b : Bool) → filter q (filter p ns) ≡ filter both ns → filter q (cond b (n ∷ filter p ns) (filter p ns)) ≡ cond (b && q n) (n ∷ filter both ns) (filter both ns)
    step true rest = ap (λ xs. cond (q n) (n ∷ xs) xs) rest
    step false rest = rest

-- the masks that are taken of candidates are those that a test takes
pub masks_taken-tagged : (triggers : Bool) (leads : ℕ → Bool) (ns : List ℕ) → masks_taken triggers (tagged leads ns) ≡ filter (λ n. leads n || not triggers) ns
masks_taken-tagged triggers leads [] = refl
masks_taken-tagged triggers leads (n ∷ ns) = step (leads n || not triggers) (masks_taken-tagged triggers leads ns)
  where
    candidates : List Candidate
    candidates = filter (λ candidate. candidate.leads || not triggers) (tagged leads ns)

    numbers : List ℕ
    numbers = filter (λ n. leads n || not triggers) ns

    step : (b : Bool) → map (λ candidate. candidate.mask) candidates ≡ numbers → map (λ candidate. candidate.mask) (cond b (record { mask = n; leads = leads n } ∷ candidates) candidates) ≡ cond b (n ∷ numbers) numbers
    step true rest = ap (λ xs. n ∷ xs) rest
    step false rest = rest

-- the numbers that pass, by a test that answers alike for them
tagged_alike : (p leads other : ℕ → Bool) → ((n : ℕ) → p n ≡ true → leads n ≡ other n) → (ns : List ℕ) → tagged leads (filter p ns) ≡ tagged other (filter p ns)
tagged_alike p leads other same [] = refl
tagged_alike p leads other same (n ∷ ns) = step (p n) refl (tagged_alike p leads other same ns)
  where
    step : (b : Bool) → p n ≡ b → tagged leads (filter p ns) ≡ tagged other (filter p ns) → tagged leads (cond b (n ∷ filter p ns) (filter p ns)) ≡ tagged other (cond b (n ∷ filter p ns) (filter p ns))
    step true e rest = λ i. record { mask = n; leads = same n e i } ∷ rest i
    step false e rest = rest

-- numbers above 0 do not begin with 0
none_before_above : (p : ℕ → Bool) (a n : ℕ) → 0 < a → none_before (filter p (range_with_len a n)) ≡ record { mask = 0; leads = false } ∷ []
none_before_above p a zero above = refl
none_before_above p a (suc n) above = step (p a) (none_before_above p (a + 1) n (omega arith))
  where
    later : List ℕ
    later = filter p (range_with_len (a + 1) n)

    step : (b : Bool) → none_before later ≡ record { mask = 0; leads = false } ∷ [] → none_before (cond b (a ∷ later) later) ≡ record { mask = 0; leads = false } ∷ []
    step true rest =
        let ne : eqb a 0 ≡ false = ne_eqb a 0 (λ is. absurd (omega arith)) in
        ap (λ b. cond b [] (record { mask = 0; leads = false } ∷ [])) ne
    step false rest = rest

-- an "and" with a known side
and_true : (b : Bool) → (b && true) ≡ b
and_true true = refl
and_true false = refl

and_false : (b : Bool) → (b && false) ≡ false
and_false true = refl
and_false false = refl

-- the candidates of a child that must act: those that pass
pub choices-must : (p : ℕ → Bool) (n : ℕ) (trigger : Bool) → choices (passing p n) trigger false ≡ tagged (λ m. trigger && p m) (passing p n)
choices-must p n trigger = tagged_alike p (λ _. trigger) (λ m. trigger && p m) (λ m e. sym (ap (λ b. trigger && b) e ∙ and_true trigger)) (range_with_len 0 n)

-- and of one that may stay away: 0 too
pub choices-may : (p q : ℕ → Bool) (n : ℕ) (trigger : Bool) → 0 < n → q 0 ≡ true → ((m : ℕ) → 0 < m → m < n → q m ≡ p m) → choices (passing p n) trigger true ≡ tagged (λ m. trigger && p m) (passing q n)
choices-may p q zero trigger some zeroth same = absurd (omega arith)
choices-may p q (suc n) trigger some zeroth same = step (p 0) refl ∙ ap (tagged leads) (sym front)
  where
    leads : ℕ → Bool
    leads m = trigger && p m

    later : List ℕ
    later = filter p (range_with_len (0 + 1) n)

    front : passing q (suc n) ≡ 0 ∷ later
    front =
        ap (λ b. cond b (0 ∷ filter q (range_with_len (0 + 1) n)) (filter q (range_with_len (0 + 1) n))) zeroth
        ∙ ap (λ ns. 0 ∷ ns) (filter_alike q p (0 + 1) n (λ m h k. same m (omega arith) (omega arith)))

    others : tagged (λ _. trigger) later ≡ tagged leads later
    others = tagged_alike p (λ _. trigger) leads (λ m e. sym (ap (λ b. trigger && b) e ∙ and_true trigger)) (range_with_len (0 + 1) n)

    step : (b : Bool) → p 0 ≡ b → choices (cond b (0 ∷ later) later) trigger true ≡ tagged leads (0 ∷ later)
    step true e = λ i. record { mask = 0; leads = (sym (and_true trigger) ∙ sym (ap (λ b. trigger && b) e)) i } ∷ others i
    step false e =
        ap (λ front. front ++ tagged (λ _. trigger) later) (none_before_above p (0 + 1) n (omega arith))
        ∙ (λ i. record { mask = 0; leads = (sym (and_false trigger) ∙ sym (ap (λ b. trigger && b) e)) i } ∷ others i)

-- the numbers from m on that pass are those that pass a test of how far they are above m
passing-block : (p q : ℕ → Bool) (m n : ℕ) → ((l : ℕ) → l < n → p (m + l) ≡ q l) → passing p (m + n) ≡ passing p m ++ map (λ l. m + l) (passing q n)
passing-block p q m zero same = let e : m + 0 ≡ m = omega arith in ap (passing p) e ∙ sym (append-nil (passing p m))
passing-block p q m (suc n) same =
    let e : m + suc n ≡ suc (m + n) = omega arith in
    let so_far = passing-block p q m n (λ l h. same l (omega arith)) in
    let here = same n (omega arith) in
    let moved : List ℕ → List ℕ = map (λ l. m + l) in
    ap (passing p) e ∙ passing-suc p (m + n)
    ∙ (λ i. so_far i ++ cond (here i) ((m + n) ∷ []) [])
    ∙ append_assoc (passing p m) (moved (passing q n)) (cond (q n) ((m + n) ∷ []) [])
    ∙ ap (λ ns. passing p m ++ ns) (ap (λ ns. moved (passing q n) ++ ns) (one (q n)) ∙ sym (map-append (λ l. m + l) (passing q n) (cond (q n) (n ∷ []) [])) ∙ ap moved (sym (passing-suc q n)))
  where
    one : (b : Bool) → cond b ((m + n) ∷ []) [] ≡ map (λ l. m + l) (cond b (n ∷ []) [])
    one true = refl
    one false = refl

-- all that pass are below the bound
pub passing_below : (p : ℕ → Bool) (n : ℕ) → All (λ m. m < n) (passing p n)
passing_below p n k d within = (passing_is p n _ (Contains-get_or (passing p n) k d within)).0

-- numbers moved up by m, as candidates with the leaves that m has
tagged-moved : (leads low : ℕ → Bool) (m : ℕ) (high : Bool) (ns : List ℕ) → AllByRecursion (λ l. leads (m + l) ≡ (low l || high)) ns → tagged leads (map (λ l. m + l) ns) ≡ map (with_later m high) (tagged low ns)
tagged-moved leads low m high [] same = refl
tagged-moved leads low m high (l ∷ ns) same = λ i. record { mask = m + l; leads = same.0 i } ∷ tagged-moved leads low m high ns same.1 i

-- if a test is a test of the low digits and one of the high, those that pass are joined of those of each
pub tagged-joined : (p low high leads low_leads high_leads : ℕ → Bool) (at n : ℕ) → ((h l : ℕ) → h < n → l < 2 ^ at → (p (h * 2 ^ at + l) ≡ (low l && high h)) × (leads (h * 2 ^ at + l) ≡ (low_leads l || high_leads h))) → tagged leads (passing p (n * 2 ^ at)) ≡ joined (tagged low_leads (passing low (2 ^ at))) at (tagged high_leads (passing high n))
tagged-joined p low high leads low_leads high_leads at zero both = ap (λ n. tagged leads (passing p n)) (zero-mul (2 ^ at))
tagged-joined p low high leads low_leads high_leads at (suc n) both = ap (λ n. tagged leads (passing p n)) (suc-mul n size) ∙ step (high n) refl (tagged-joined p low high leads low_leads high_leads at n (λ h l k. both h l (omega arith)))
  where
    size : ℕ
    size = 2 ^ at

    lows : List Candidate
    lows = tagged low_leads (passing low size)

    each : Candidate → List Candidate
    each later = map (with_later (later.mask * size) later.leads) lows

    last : Candidate
    last = record { mask = n; leads = high_leads n }

    -- all that pass from n * size on
    moved : tagged leads (map (λ l. n * size + l) (passing low size)) ≡ each last
    moved = tagged-moved leads low_leads (n * size) (high_leads n) (passing low size)
        (recursion_from_All _ (passing low size) (All-weaker (λ l. l < size) (λ l. leads (n * size + l) ≡ (low_leads l || high_leads n)) (λ l k. (both n l (omega arith) k).1) (passing low size) (passing_below low size)))

    step : (b : Bool) → high n ≡ b → tagged leads (passing p (n * size)) ≡ joined lows at (tagged high_leads (passing high n)) → tagged leads (passing p (n * size + size)) ≡ joined lows at (tagged high_leads (passing high (suc n)))
    step true e so_far =
        ap (tagged leads) (passing-block p low (n * size) size (λ l k. (both n l (omega arith) k).0 ∙ ap (λ b. low l && b) e ∙ and_true (low l)))
        ∙ map-append (λ m. record { mask = m; leads = leads m }) (passing p (n * size)) (map (λ l. n * size + l) (passing low size))
        ∙ (λ i. so_far i ++ (moved ∙ sym (append-nil (each last))) i)
        ∙ sym (flat_map-append each (tagged high_leads (passing high n)) (last ∷ []))
        ∙ ap (joined lows at) (sym (map-append (λ m. record { mask = m; leads = high_leads m }) (passing high n) (n ∷ [])))
        ∙ ap (λ ns. joined lows at (tagged high_leads ns)) (sym (passing-suc high n ∙ ap (λ b. passing high n ++ cond b (n ∷ []) []) e))
    step false e so_far =
        ap (tagged leads) (passing-block p (λ _. false) (n * size) size (λ l k. (both n l (omega arith) k).0 ∙ ap (λ b. low l && b) e ∙ and_false (low l)))
        ∙ ap (λ ns. tagged leads (passing p (n * size) ++ map (λ l. n * size + l) ns)) (passing_nothing size)
        ∙ ap (tagged leads) (append-nil (passing p (n * size)))
        ∙ so_far
        ∙ ap (λ ns. joined lows at (tagged high_leads ns)) (sym (passing-suc high n ∙ ap (λ b. passing high n ++ cond b (n ∷ []) []) e ∙ append-nil (passing high n)))
