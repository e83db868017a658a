-- Ports whose transitions are counted again: each has its number from before as long as all its transitions in which two sets differ are left,
-- and then the number of now.
use Rattle.std.proofs.Common.{◌≡◌, ℕ, ◌^◌, ◌<◌, ◌≤◌, ◌≢◌, ◌⊎◌, inl, inr, Bool, true, false, not, ◌&&◌, ◌||◌, eqb, ltb, refl, sym, ◌∙◌, ap, arith, List, length, get_or, set, get_or-set_same, get_or-set_other, ⊎_elim}
use Rattle.std.specs.Prelude.{bit_and, bit_or, bit_xor, slice_get, Option, Some, None}
use mir.Val.{bits}
use Rattle.std.specs.Int.{Width, bit_not, trailing_zeros}
use Rattle.std.specs.Int.Count.{ones}
use Rattle.std.specs.Option.{option_map_or}
use Rattle.std.proofs.Math.Bool.{or-false, and-true}
use Rattle.std.proofs.Math.Pow.{pow_mono}
use Rattle.std.proofs.lemmas.Bool.{and_right, cases_eq, cases_lt, eq-eqb, ne_eqb, eqb-true, ltb-true, both_ways, false≢true}
use Rattle.std.proofs.lemmas.Nat.{and_le_l, and_le_r, ones-le, pow_pos}
use Rattle.petri_atom.specs.Local.{Local, has}
use Rattle.petri_atom.specs.Definition.{AtomDefinition, TransitionDefinition, enabled, is_well_formed, offered_set, offers_number}
use Rattle.petri_atom.specs.Parts.{is_of_port, set_of_port}
use Rattle.petri_atom.proofs.Fitting.{all_get, few_ports, known_ports}
use Rattle.petri_atom.proofs.Judging.{not_there}
use Rattle.petri_atom.proofs.Lists.{either}
use Rattle.petri_atom.proofs.Members.{there, before}
use Rattle.petri_atom.proofs.PortSets.{ones-of_port}
use Rattle.petri_atom.proofs.Sets.{differs, has-above, has-and, has-or, has-xor, has-minus, has-passing, same_numbers, set_below-lt}

-- a number that is in neither of two sets alone is in both or in none
not_alone : (a b k : ℕ) → has (bit_xor a b) k ≡ false → has a k ≡ has b k
not_alone a b k none = alike (has a k) (has b k) (sym (has-xor a b k) ∙ none)
  where
    alike : (x y : Bool) → differs x y ≡ false → x ≡ y
    alike x y none = grind arith

-- ---- one port

-- the set of a port has just its transitions
has-of_port : (ts : List TransitionDefinition) (port n : ℕ) → has (set_of_port port ts) n ≡ is_of_port port ts n
has-of_port ts port n =
    has-passing (length ts) (is_of_port port ts) n (not_there (λ t. eqb t.port port) ts n)

-- a transition of a port is there
of_port-below : (ts : List TransitionDefinition) (port n : ℕ) → is_of_port port ts n ≡ true → n < length ts
of_port-below ts port n of = ⊎_elim (λ below. below)
    (λ past. absurd (both_ways _ (not_there (λ t. eqb t.port port) ts n past) of))
    (cases_lt n (length ts))

-- it is of one port alone
of_one_port : (ts : List TransitionDefinition) (port other n : ℕ) → port ≢ other → is_of_port port ts n ≡ true → is_of_port other ts n ≡ false
of_one_port ts port other n apart of = each (slice_get ts n) of
  where
    each : (o : Option TransitionDefinition) → option_map_or (λ t. eqb t.port port) o false ≡ true → option_map_or (λ t. eqb t.port other) o false ≡ false
    each None of = refl
    each (Some t) of = ne_eqb t.port other (λ same. apart (sym (eqb-true t.port port of) ∙ same))

-- and in a well-formed atom its port is there
pub port_there : (a : AtomDefinition) → is_well_formed a ≡ true → (n port : ℕ) → is_of_port port a.transitions n ≡ true → port < length a.ports
port_there a formed n port of = each (slice_get a.transitions n) refl of
  where
    each : (o : Option TransitionDefinition) → slice_get a.transitions n ≡ o → option_map_or (λ t. eqb t.port port) o false ≡ true → port < length a.ports
    each None there of = absurd (false≢true of)
    each (Some t) there of =
        omega (arith, ltb-true t.port (length a.ports) (all_get (λ u. ltb u.port (length a.ports)) a.transitions n t (known_ports a formed) there), eqb-true t.port port of)

-- the transition with a number is of its port
pub is_of_own_port : (ts : List TransitionDefinition) (n : ℕ) (t : TransitionDefinition) (port : ℕ) → slice_get ts n ≡ Some t → port ≡ t.port → is_of_port port ts n ≡ true
is_of_own_port ts n t port there is =
    ap (λ o. option_map_or (λ u. eqb u.port port) o false) there ∙ eq-eqb t.port port (sym is)

-- so many of a set are of the port
abbrev pub count_of : List TransitionDefinition → ℕ → ℕ → ℕ
count_of ts set port = ones (bit_and set (set_of_port port ts))

-- a port's number is the one from before, and all its transitions in which the sets differ are left
abbrev pub IsKept : List TransitionDefinition → ℕ → ℕ → ℕ → List ℕ → List ℕ → ℕ → Type 0
IsKept ts before after left old now port =
    (get_or now port 0 ≡ get_or old port 0) × ((n : ℕ) → is_of_port port ts n ≡ true → has left n ≡ has (bit_xor before after) n)

-- or it is the one of now, and none of its transitions is left
abbrev pub IsRenewed : List TransitionDefinition → ℕ → ℕ → List ℕ → ℕ → Type 0
IsRenewed ts after left now port =
    (get_or now port 0 ≡ count_of ts after port) × ((n : ℕ) → is_of_port port ts n ≡ true → has left n ≡ false)

-- one of the two is so of each port
abbrev pub AreRecounted : List TransitionDefinition → ℕ → ℕ → ℕ → List ℕ → List ℕ → Type 0
AreRecounted ts before after left old now =
    (port : ℕ) → IsKept ts before after left old now port ⊎ IsRenewed ts after left now port

-- ---- one step: the port of a transition that is left
module _ (ts : List TransitionDefinition) (width : Width) (few : length ts ≤ bits width) (left : ℕ) (small : left < 2 ^ bits width) (port mask n : ℕ) (masked : mask ≡ set_of_port port ts) (of : is_of_port port ts n ≡ true) (inside : has left n ≡ true) where
  abbrev rest : ℕ
  rest = bit_and left (bit_not width mask)

  mask-small : mask < 2 ^ bits width
  mask-small = omega (arith, masked, set_below-lt (length ts) (is_of_port port ts), pow_mono few)

  has-rest : (k : ℕ) → has rest k ≡ (has left k && not (is_of_port port ts k))
  has-rest k =
      has-minus width left mask k small mask-small ∙
      ap (λ b. has left k && not b) (ap (λ m. has m k) masked ∙ has-of_port ts port k)

  -- fewer are left
  pub fewer-left : rest < left
  fewer-left =
      ⊎_elim (λ less. less)
      (λ past. let same : rest ≡ left = omega (arith, past, and_le_l left (bit_not width mask)) in absurd (both_ways _ (sym (ap (λ w. has w n) same) ∙ has-rest n ∙ and_right (has left n) _ (ap not of)) inside))
      (cases_lt rest left)

  -- the numbers of the ports after it
  module _ (before after : ℕ) (old now next : List ℕ) (room : port < length now) (made : next ≡ set now port (count_of ts after port)) where
    -- the port has its new number, and each other one the one that it had
    here : get_or next port 0 ≡ count_of ts after port
    here = ap (λ xs. get_or xs port 0) made ∙ get_or-set_same now port (count_of ts after port) 0 room

    pub elsewhere : (k : ℕ) → k ≢ port → get_or next k 0 ≡ get_or now k 0
    elsewhere k other =
        ap (λ xs. get_or xs k 0) made ∙ get_or-set_other now port k (count_of ts after port) 0 other

    -- of other ports the same are left
    stays : (k : ℕ) → k ≢ port → (m : ℕ) → is_of_port k ts m ≡ true → has rest m ≡ has left m
    stays k other m own =
        has-rest m ∙ ap (λ b. has left m && not b) (of_one_port ts k port m other own) ∙ and-true (has left m)

    -- so the port is renewed, and the others are what they were
    pub recounted-more : AreRecounted ts before after left old now → AreRecounted ts before after rest old next
    recounted-more so_far k =
        ⊎_elim
        (λ same. inr (
          ap (λ j. get_or next j 0) same ∙ here ∙ ap (count_of ts after) (sym same),
          λ m own. has-rest m ∙ and_right (has left m) _ (ap not (sym (ap (λ j. is_of_port j ts m) same) ∙ own)),
        ))
        (λ other. ⊎_elim (λ kept. inl (elsewhere k other ∙ kept.0, λ m own. stays k other m own ∙ kept.1 m own)) (λ done. inr (elsewhere k other ∙ done.0, λ m own. stays k other m own ∙ done.1 m own)) (so_far k))
        (cases_eq k port)

    -- its number was the one from before, since the transition was left
    was-old : AreRecounted ts before after left old now → get_or now port 0 ≡ get_or old port 0
    was-old so_far =
        ⊎_elim (λ kept. kept.0) (λ done. absurd (both_ways _ (done.1 n of) inside)) (so_far port)

    -- what was told of each port is so of the new numbers, with what is told of this one
    pub told-more : AreRecounted ts before after left old now → (told bit : ℕ) → ((k : ℕ) → has told k ≡ not (eqb (get_or now k 0) (get_or old k 0))) → ((k : ℕ) → has bit k ≡ (eqb k port && not (eqb (count_of ts after port) (get_or now port 0)))) → (k : ℕ) → has (bit_or told bit) k ≡ not (eqb (get_or next k 0) (get_or old k 0))
    told-more so_far told bit is tells k =
        has-or told bit k ∙ either (is k) (tells k) ∙
        ⊎_elim
        (λ same. alike k same)
        (λ other. ap (λ b. not (eqb (get_or now k 0) (get_or old k 0)) || b && is_other) (ne_eqb k port other) ∙ or-false _ ∙ sym (ap (λ v. not (eqb v (get_or old k 0))) (elsewhere k other)))
        (cases_eq k port)
      where
        is_other : Bool
        is_other = not (eqb (count_of ts after port) (get_or now port 0))

        alike : (k : ℕ) → k ≡ port → (not (eqb (get_or now k 0) (get_or old k 0)) || eqb k port && is_other) ≡ not (eqb (get_or next k 0) (get_or old k 0))
        alike k same =
            either (ap not (ap (λ j. eqb (get_or now j 0) (get_or old j 0)) same ∙ eq-eqb _ _ (was-old so_far))) (ap (λ b. b && is_other) (eq-eqb k port same)) ∙
            ap (λ v. not (eqb (count_of ts after port) v)) (was-old so_far) ∙
            sym (ap (λ j. not (eqb (get_or next j 0) (get_or old j 0))) same ∙ ap (λ v. not (eqb v (get_or old port 0))) here)

-- what is so of the numbers while transitions are left: of each port, of the limit, of ports that are not there, of what is told, and of their length
abbrev pub IsRecounting : AtomDefinition → ℕ → ℕ → ℕ → List ℕ → List ℕ → ℕ → Type 0
IsRecounting a before after left old now told =
    AreRecounted a.transitions before after left old now ×
    (((port : ℕ) → get_or old port 0 ≤ 128) → (port : ℕ) → get_or now port 0 ≤ 128) ×
    ((port : ℕ) → length a.ports ≤ port → get_or now port 0 ≡ get_or old port 0) ×
    ((port : ℕ) → has told port ≡ not (eqb (get_or now port 0) (get_or old port 0))) ×
    (length now ≡ 32)

-- it goes on to be so when the port of the lowest that is left is counted again
pub recounting-more : (a : AtomDefinition) → is_well_formed a ≡ true → (width : Width) → bits width ≤ 128 → length a.transitions ≤ bits width → (left : ℕ) → 0 < left → left < 2 ^ bits width → (port mask : ℕ) → mask ≡ set_of_port port a.transitions → is_of_port port a.transitions (trailing_zeros width left) ≡ true → (before after told bit : ℕ) (old now next : List ℕ) → next ≡ set now port (ones (bit_and after mask)) → ((k : ℕ) → has bit k ≡ (eqb k port && not (eqb (ones (bit_and after mask)) (get_or now port 0)))) → length next ≡ 32 → IsRecounting a before after left old now told → IsRecounting a before after (bit_and left (bit_not width mask)) old next (bit_or told bit)
recounting-more a formed width wide few left some small port mask masked of before after told bit old now next counted tells long so_far =
    let ts = a.transitions in
    let n = trailing_zeros width left in
    let inside = there width left some small in
    let count : ones (bit_and after mask) ≡ count_of ts after port = ap (λ m. ones (bit_and after m)) masked in
    let made : next ≡ set now port (count_of ts after port) = counted ∙ ap (set now port) count in
    let within : port < length a.ports = port_there a formed n port of in
    let room : port < length now = omega (arith, within, few_ports a formed, so_far.4) in
    let word-small : bit_and after mask < 2 ^ bits width =
    omega (arith, and_le_r after mask, masked, set_below-lt (length ts) (is_of_port port ts), pow_mono few) in
    let own : get_or next port 0 ≡ ones (bit_and after mask) =
    ap (λ xs. get_or xs port 0) counted ∙ get_or-set_same now port (ones (bit_and after mask)) 0 room in
    let others : (k : ℕ) → k ≢ port → get_or next k 0 ≡ get_or now k 0 =
    elsewhere ts width few left small port mask n masked of inside before after old now next room made in (
      recounted-more ts width few left small port mask n masked of inside before after old now next room made so_far.0,
      λ fits k. ⊎_elim (λ same. omega (arith, wide, ones-le (bits width) (bit_and after mask) word-small, ap (λ j. get_or next j 0) same, own)) (λ other. omega (arith, others k other, so_far.1 fits k)) (cases_eq k port),
      λ k past. others k (λ same. absurd (omega (arith, same, past, within))) ∙ so_far.2 k past,
      told-more ts width few left small port mask n masked of inside before after old now next room made so_far.0 told bit so_far.3 (λ k. tells k ∙ ap (λ v. eqb k port && not (eqb v (get_or now port 0))) count),
      long,
    )

-- ---- the end: no transition that is there is left
none-left : (ts : List TransitionDefinition) (left : ℕ) → ((n : ℕ) → n < length ts → has left n ≡ false) → (port n : ℕ) → is_of_port port ts n ≡ true → has left n ≡ false
none-left ts left none port n of = none n (of_port-below ts port n of)

-- at the lowest number that is left, none is there if that is not
pub past-left : (ts : List TransitionDefinition) (width : Width) (left : ℕ) → 0 < left → left < 2 ^ bits width → length ts ≤ trailing_zeros width left → (n : ℕ) → n < length ts → has left n ≡ false
past-left ts width left some small past n below = before width left some small n (omega (arith, past, below))

-- nor if nothing is left
pub empty-left : (ts : List TransitionDefinition) (left : ℕ) → left ≡ 0 → (n : ℕ) → n < length ts → has left n ≡ false
empty-left ts left none n below = ap (λ w. has w n) none ∙ has-above 0 0 n (pow_pos 0) (omega arith)

-- so each port's number is right
pub recounted-all : (a : AtomDefinition) (before after left : ℕ) (old now : List ℕ) → AreRecounted a.transitions before after left old now → ((n : ℕ) → n < length a.transitions → has left n ≡ false) → (s t : Local) → before ≡ offered_set a s → after ≡ offered_set a t → (port : ℕ) → get_or old port 0 ≡ length (enabled a s port) → get_or now port 0 ≡ length (enabled a t port)
recounted-all a before after left old now so none s t was is port right =
    ⊎_elim
    (λ kept. kept.0 ∙ right ∙ sym (counted s before was) ∙ ap ones (unchanged kept.1) ∙ counted t after is)
    (λ done. done.0 ∙ counted t after is)
    (so port)
  where
    ts : List TransitionDefinition
    ts = a.transitions

    counted : (state : Local) (set : ℕ) → set ≡ offered_set a state → count_of ts set port ≡ length (enabled a state port)
    counted state set is = ap (λ w. count_of ts w port) is ∙ ones-of_port (offers_number a state) port ts

    unchanged : ((n : ℕ) → is_of_port port ts n ≡ true → has left n ≡ has (bit_xor before after) n) → bit_and before (set_of_port port ts) ≡ bit_and after (set_of_port port ts)
    unchanged same =
        same_numbers _ _
        (λ n. has-and before (set_of_port port ts) n ∙ apart n (is_of_port port ts n) refl ∙ sym (has-and after (set_of_port port ts) n))
      where
        apart : (n : ℕ) (b : Bool) → is_of_port port ts n ≡ b → (has before n && has (set_of_port port ts) n) ≡ (has after n && has (set_of_port port ts) n)
        apart n true of =
            ap (λ b. b && has (set_of_port port ts) n) (not_alone before after n (sym (same n of) ∙ none-left ts left none port n of))
        apart n false of =
            let out = has-of_port ts port n ∙ of in
            and_right (has before n) _ out ∙ sym (and_right (has after n) _ out)
