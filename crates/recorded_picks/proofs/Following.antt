-- What is given of picks that have others after them.
use Rattle.std.proofs.Common.{◌∙◌, ap, List, ◌++◌}
use Rattle.std.specs.Prelude.{Option, Some, None}
use Rattle.run_text.specs.Picks.{Gives, PickDefinition}
use Rattle.run_text.specs.declared.pick.Pick.{Pick}
use Rattle.recorded_picks.specs.Followed.{followed}

-- a pick of the source comes first
pub gives_first : (more : List PickDefinition) (old new : Option (List PickDefinition)) (pick : Pick) → Gives old new (Some pick) → Gives (followed more old) (followed more new) (Some pick)
gives_first more None new pick gives = tt
gives_first more (Some picks) None pick gives = absurd gives
gives_first more (Some picks) (Some rest) pick gives = ap (λ ps. ps ++ more) gives

-- where the source has none, what is given of those after it is given
pub gives_after : (more left : List PickDefinition) (old new : Option (List PickDefinition)) (given : Option Pick) → Gives old new None → Gives (Some more) (Some left) given
    → Gives (followed more old) (Some left) given
gives_after more left None new given none gives = tt
gives_after more left (Some picks) None given none gives = absurd none
gives_after more left (Some picks) (Some rest) None none gives = (ap (λ ps. ps ++ more) none.0 ∙ gives.0, gives.1)
gives_after more left (Some picks) (Some rest) (Some pick) none gives = ap (λ ps. ps ++ more) none.0 ∙ gives
