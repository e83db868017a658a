-- Replay: the state of one atom is brought forward over records, by what these say that the atom did and what was delivered to it.
use Rattle.std.specs.Prelude.{ℕ, ◌+◌, ◌==◌, Bool, true, not, nat_le, if◌then◌else◌, List, [], ◌∷◌, Option, Result, Ok, Err, find}
use Rattle.std.specs.Option.{option_map_or}
use Rattle.petri_atom.specs.Local.{Local}
use Rattle.petri_atom.specs.Definition.{AtomDefinition, fired, offers_number}
use Rattle.record_codec.specs.Fired.{FiredFields}
use Rattle.record_codec.specs.declared.entry.Entry.{Entry}
use Rattle.record_replay.specs.declared.fault.ReplayFault.{ReplayFault}
use Rattle.record_replay.specs.declared.fault.ReplayFault.TheVariants.{Gap, NotEnabled}

-- where the replay of an atom is: its state, and how often it has taken part
pub record Position : Type 0 where
  pub state : Local
  pub count : ℕ

-- what the atom with a number did in a record, if it took part
abbrev pub part_of : ℕ → FiredFields → Option Entry
part_of atom r = find (λ e. e.atom == atom) r.entries

-- what follows an Ok
abbrev pub ok_then : {X Y F : Type 0} → Result X F → (X → Result Y F) → Result Y F
ok_then (Ok x) goes = goes x
ok_then (Err fault) goes = Err fault

-- A firing that the saved state includes is passed over. Any other has to be the next one of the atom, by a transition that its
-- state offers, and is fired with the values that the record says were delivered.
abbrev pub replay_entry : AtomDefinition → ℕ → ℕ → Entry → Position → Result Position ReplayFault
replay_entry a saved number e p =
    if nat_le e.participation saved then Ok p
    else if not (e.participation == p.count + 1) then Err Gap
    else if not (offers_number a p.state e.transition) then Err (NotEnabled number)
    else Ok (record { state = fired a e.transition e.delivered p.state; count = p.count + 1 })

-- the same over a record; one that the atom has no part in is passed over
abbrev pub replay_record : AtomDefinition → ℕ → ℕ → FiredFields → Position → Result Position ReplayFault
replay_record a atom saved r p = option_map_or (λ e. replay_entry a saved r.number e p) (part_of atom r) (Ok p)

-- and over records, one after another: where the atom is at their end, or the first fault
abbrev pub replay : AtomDefinition → ℕ → ℕ → List FiredFields → Position → Result Position ReplayFault
replay a atom saved [] p = Ok p
replay a atom saved (r ∷ rs) p = ok_then (replay_record a atom saved r p) (λ q. replay a atom saved rs q)

-- the replay of an atom from a saved state
abbrev pub replay_from : AtomDefinition → ℕ → Position → List FiredFields → Result Position ReplayFault
replay_from a atom saved rs = replay a atom saved.count rs saved

-- the saved state of an atom includes its part in a record, or it has none
abbrev pub is_included : ℕ → ℕ → FiredFields → Bool
is_included atom saved r = option_map_or (λ e. nat_le e.participation saved) (part_of atom r) true
