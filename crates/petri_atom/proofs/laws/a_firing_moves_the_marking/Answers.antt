use Rattle.std.proofs.Common.{◌∙◌, ap, not, ◌&&◌, ◌||◌}
use Rattle.std.specs.Option.{option_map_or}
use Rattle.petri_atom.specs.Local.{has, is_in, moved}
use Rattle.petri_atom.specs.Definition.{fired_by, exports_of}
use Rattle.petri_atom.proofs.Sets.{has-set_below}
use Rattle.petri_atom.proofs.laws.a_firing_moves_the_marking.Goals as goal

pub returns : goal.returns
unfolding moved
returns c a n t row state p there place =
    ap (λ o. has (option_map_or (λ u. fired_by u (exports_of a u.port) row state) o state).marking p) there ∙
    has-set_below 64 (λ k. (has state.marking k && not (is_in t.sources k)) || is_in t.targets k) p place
