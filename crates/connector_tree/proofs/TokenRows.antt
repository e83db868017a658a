-- Worked examples of tokens, as computed facts.
use Rattle.std.proofs.Common.{◌≡◌, ℕ, true, false, refl, [], ◌∷◌}
use Rattle.connector_tree.specs.declared.token.Token.{Token}
use Rattle.connector_tree.specs.declared.token.Token.TheVariants.{Leaf, Open, Close}
use Rattle.connector_tree.specs.TokenMeaning.{interactions_in}

-- the port 0 of an atom, as a synchron and as a trigger
synchron : ℕ → Token
synchron atom = Leaf (record { atom = atom; port = 0 }) false

trigger : ℕ → Token
trigger atom = Leaf (record { atom = atom; port = 0 }) true

a_leader_and_a_follower : interactions_in (trigger 0 ∷ synchron 1 ∷ []) ≡ 1 ∷ 3 ∷ []
unfolding synchron trigger
a_leader_and_a_follower = refl

followers_together_only : interactions_in (trigger 0 ∷ Open ∷ synchron 1 ∷ synchron 2 ∷ Close false ∷ []) ≡ 1 ∷ 7 ∷ []
unfolding synchron trigger
followers_together_only = refl

a_leading_bracket : interactions_in (Open ∷ trigger 0 ∷ synchron 1 ∷ Close false ∷ synchron 2 ∷ []) ≡ 5 ∷ 7 ∷ []
unfolding synchron trigger
a_leading_bracket = refl

a_bracket_between_followers : interactions_in (trigger 2 ∷ Open ∷ trigger 0 ∷ synchron 25 ∷ Close false ∷ synchron 1 ∷ []) ≡ 1 ∷ 3 ∷ 7 ∷ 9 ∷ 11 ∷ 15 ∷ []
unfolding synchron trigger
a_bracket_between_followers = refl
