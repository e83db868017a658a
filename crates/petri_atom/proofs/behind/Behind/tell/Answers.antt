use Rattle.std.proofs.Common.{◌≡◌, ◌*◌, ◌%◌, ◌^◌, ◌||◌, ◌&&◌, refl, ◌∙◌, ap, eqb}
use Rattle.std.specs.Prelude.{bit_or}
use Rattle.std.specs.Int.{w128}
use denote.Enum.Bare.{sameb}
use Rattle.petri_atom.specs.Behind.{is_effect}
use Rattle.petri_atom.specs.Local.{has}
use Rattle.petri_atom.specs.contracts.behind.Effect.{the_type}
use Rattle.petri_atom.specs.declared.behind.Effect.{Effect}
use Rattle.petri_atom.specs.declared.behind.Effect.TheVariants.{Keeps, Makes, Stops, Asks}
use Rattle.petri_atom.proofs.Sets.{has-put}
use Rattle.petri_atom.proofs.behind.Behind.tell.Goals as goal

-- the test of the program tells whether two effects are the same
same_effect : (e f : Effect) → sameb the_type e f ≡ is_effect f e
same_effect Keeps Keeps = refl
same_effect Keeps Makes = refl
same_effect Keeps Stops = refl
same_effect Keeps Asks = refl
same_effect Makes Keeps = refl
same_effect Makes Makes = refl
same_effect Makes Stops = refl
same_effect Makes Asks = refl
same_effect Stops Keeps = refl
same_effect Stops Makes = refl
same_effect Stops Stops = refl
same_effect Stops Asks = refl
same_effect Asks Keeps = refl
same_effect Asks Makes = refl
same_effect Asks Stops = refl
same_effect Asks Asks = refl

pub returns-clause-keep : goal.returns-clause-keep
returns-clause-keep c n =
    ap (λ x. has (bit_or c.args.self.now.keep (x * 2 ^ c.args.number % 2 ^ 128)) n) c.from.ensures ∙
    has-put w128 c.args.self.now.keep c.args.number n c.eq-keeps.result c.requires ∙
    ap (λ b. has c.args.self.now.keep n || eqb n c.args.number && b) (c.eq-keeps.ensures ∙ same_effect c.args.effect Keeps)

pub returns-clause-make : goal.returns-clause-make
returns-clause-make c n =
    ap (λ x. has (bit_or c.args.self.now.make (x * 2 ^ c.args.number % 2 ^ 128)) n) c.from-2.ensures ∙
    has-put w128 c.args.self.now.make c.args.number n c.eq.result c.requires ∙
    ap (λ b. has c.args.self.now.make n || eqb n c.args.number && b) (c.eq.ensures ∙ same_effect c.args.effect Makes)

pub returns-clause-ask : goal.returns-clause-ask
returns-clause-ask c n =
    ap (λ x. has (bit_or c.args.self.now.ask (x * 2 ^ c.args.number % 2 ^ 128)) n) c.from-3.ensures ∙
    has-put w128 c.args.self.now.ask c.args.number n c.eq-2.result c.requires ∙
    ap (λ b. has c.args.self.now.ask n || eqb n c.args.number && b) (c.eq-2.ensures ∙ same_effect c.args.effect Asks)

pub returns-clause-again : goal.returns-clause-again
returns-clause-again c n =
    ap (λ x. has (bit_or c.args.self.now.again (x * 2 ^ c.args.number % 2 ^ 128)) n) c.from-4.ensures ∙
    has-put w128 c.args.self.now.again c.args.number n _ c.requires
