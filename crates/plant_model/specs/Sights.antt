-- What is seen of a plant's atoms, for the conditions of its priority rules.
use Rattle.std.specs.Prelude.{◌≡◌, ℕ, Bool, false, not, ◌||◌, List, Contains}
use Rattle.petri_atom.specs.Local.{is_in}
use Rattle.priority_filter.specs.Active.{AskAlike, may_be_marked}
use Rattle.priority_filter.specs.Members.{has_bit}
use Rattle.priority_filter.specs.declared.rule.Rule.{Rule}
use Rattle.priority_filter.specs.declared.rule.Rule.TheVariants.{UnderAt}
use Rattle.priority_filter.specs.declared.rule.Side.{Side}
use Rattle.priority_filter.specs.declared.seen.At.{At}
use Rattle.priority_filter.specs.declared.seen.Seen.{Seen}

-- what is seen of an atom says that a place is marked, or may be since nothing is known
abbrev pub says : Seen → ℕ → Bool
says seen place = not seen.known || has_bit seen.places place

-- each place that a rule asks for is seen as it is
abbrev pub AreSeen : List Rule → (At → Bool) → List Seen → Type 0
AreSeen rules marked seen = AskAlike rules (may_be_marked seen) marked

-- the same of the atoms that did not change
abbrev pub AreSeenBut : List ℕ → List Rule → (At → Bool) → List Seen → Type 0
AreSeenBut changed rules marked seen =
    (left right : Side) (at : At) → Contains rules (UnderAt left right at) → is_in changed at.atom ≡ false → may_be_marked seen at ≡ marked at
