-- What the arcs of transitions tell of them.
use Rattle.std.proofs.Common.{◌≡◌, ℕ, ◌^◌, ◌<◌, Bool, true, false, eqb, refl, sym, ◌∙◌, ap, arith, List, length, get_or, Some}
use Rattle.std.specs.Prelude.{bit_and, slice_get}
use Rattle.std.specs.Int.{bit_not, w64}
use Rattle.std.specs.Option.{option_map_or}
use Rattle.petri_atom.specs.Arcs.{AreArcsOf, IsArcsOf}
use Rattle.petri_atom.specs.Definition.{TransitionDefinition, can_move}
use Rattle.petri_atom.specs.Groups.{can_move_number, suits}
use Rattle.petri_atom.specs.Local.{is_in, set_below}
use Rattle.petri_atom.specs.Parts.{is_of_port}
use Rattle.petri_atom.specs.declared.arcs.Arcs.{Arcs}
use Rattle.petri_atom.proofs.Coded.{element-at}
use Rattle.petri_atom.proofs.Lists.{both, got-at}
use Rattle.petri_atom.proofs.Markings.{all_marked-word, blocking-word, is_blocked-word}
use Rattle.petri_atom.proofs.Recounting.{is_of_own_port}

-- a marking suits the arcs of a transition exactly if it lets that move
pub suits-arcs : (a : Arcs) (t : TransitionDefinition) → IsArcsOf a t → (m : ℕ) → m < 2 ^ 64 → suits m a.sources (bit_and a.targets (bit_not w64 a.sources)) ≡ can_move m t
suits-arcs a t drawn m small =
    let blocking = ap (λ w. bit_and w (bit_not w64 a.sources)) drawn.targets ∙ ap (λ w. bit_and (set_below 64 (is_in t.targets)) (bit_not w64 w)) drawn.sources ∙ blocking-word t.sources t.targets in
    both (ap (λ w. eqb (bit_and m w) w) drawn.sources ∙ all_marked-word m t.sources small drawn.sources_are_places)
    (ap (λ w. eqb (bit_and m w) 0) blocking ∙ is_blocked-word m t.targets t.sources small drawn.targets_are_places)

-- the transition whose arcs an atom reads at a number
pub arcs-at : (arcs lent : List Arcs) (ts : List TransitionDefinition) (n : ℕ) (a : Arcs) → lent ≡ arcs → AreArcsOf arcs ts → n < length lent → a ≡ get_or lent n a → (t : TransitionDefinition) × (slice_get ts n ≡ Some t) × IsArcsOf a t
arcs-at arcs lent ts n a same drawn within here =
    element-at ts n (omega (arith, within, ap length same, drawn.0))
    (λ t there. (t, there, drawn.1 n a t (got-at arcs lent n n a same refl within here) there))

-- can move exactly if these let it
pub lets-move : (arcs : List Arcs) (ts : List TransitionDefinition) (n : ℕ) (a : Arcs) (marking : ℕ) (moves : Bool) → AreArcsOf arcs ts → n < length arcs → a ≡ get_or arcs n a → ((t : TransitionDefinition) → IsArcsOf a t → moves ≡ can_move marking t) → can_move_number ts marking n ≡ moves
lets-move arcs ts n a marking moves drawn within here told =
    let found = arcs-at arcs arcs ts n a refl drawn within here in
    ap (λ o. option_map_or (can_move marking) o false) found.1 ∙ sym (told found.0 found.2)

-- and has their port
pub own_port : (arcs lent : List Arcs) (ts : List TransitionDefinition) (n : ℕ) (a : Arcs) → lent ≡ arcs → AreArcsOf arcs ts → n < length lent → a ≡ get_or lent n a → is_of_port a.port ts n ≡ true
own_port arcs lent ts n a same drawn within here =
    let found = arcs-at arcs lent ts n a same drawn within here in
    is_of_own_port ts n found.0 a.port found.1 found.2.port
