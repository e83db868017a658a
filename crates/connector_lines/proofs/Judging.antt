-- The faults of a tree, as its tokens are read one by one.
use Rattle.std.proofs.Common.{◌≡◌, ◌∙◌, refl, sym, ap, ℕ, ◌+◌, ◌-◌, ◌≤◌, max, Bool, true, false, ◌&&◌, ◌||◌, ◌==◌, if◌then◌else◌, List, ◌∷◌, ◌++◌, Option, Some, None, arith}
use Rattle.std.specs.Prelude.{nat_lt, nat_le}
use Rattle.std.proofs.lemmas.Bool.{ltb-true, ltb-false, lt-ltb, le-ltb, leb-true, leb-false, eqb-false}
use Rattle.connector_tree.specs.declared.tree.TheConstants.{MAX_DEPTH}
use Rattle.connector_tree.specs.declared.tree.Port.{Port}
use Rattle.connector_tree.specs.declared.faults.TreeFault.{TreeFault}
use Rattle.connector_tree.specs.declared.faults.TreeFault.TheVariants.{TooManyLeaves, TooDeep, SameAtom, Empty}
use Rattle.connector_tree.specs.Faults.{has_repeat, atoms}
use Rattle.connector_tree.specs.declared.token.Token.{Token}
use Rattle.connector_tree.specs.declared.token.Token.TheVariants.{Leaf, Open, Close}
use Rattle.connector_tree.specs.Tokens.{level_after, ports_in}
use Rattle.connector_tree.specs.TokenFaults.{deepest, is_open, is_close, begins_with_close, has_empty_bracket}
use Rattle.connector_tree.proofs.TokenDepth.{level_least}
use Rattle.connector_tree.proofs.Levels.{some_same}
use Rattle.connector_lines.specs.declared.shape.Shape.{Shape}
use Rattle.connector_lines.specs.Judging.{is_too_wide_after, is_too_deep_after, has_empty_after, fault_after}

-- the fault that four tests find, in their order
fault_at : Bool → Bool → Bool → Bool → Option TreeFault
fault_at wide deep same empty =
    if wide then Some TooManyLeaves
    else (if deep then Some TooDeep
    else (if same then Some SameAtom
    else (if empty then Some Empty
    else None)))

-- tests that answer the same find the same fault; of too many ports it doesn't matter whose they are
same_fault : (wide wide' deep deep' same same' empty empty' : Bool) → wide ≡ wide' → deep ≡ deep' → (wide' ≡ false → same ≡ same') → empty ≡ empty' → fault_at wide deep same empty ≡ fault_at wide' deep' same' empty'
unfolding fault_at
same_fault wide true deep deep' same same' empty empty' w d s e = ap (λ b. if b then Some TooManyLeaves else (if deep then Some TooDeep else (if same then Some SameAtom else (if empty then Some Empty else None)))) w
same_fault wide false deep deep' same same' empty empty' w d s e =
    ap (λ b. if b then Some TooManyLeaves else (if deep then Some TooDeep else (if same then Some SameAtom else (if empty then Some Empty else None)))) w
    ∙ ap (λ b. if b then Some TooDeep else (if same then Some SameAtom else (if empty then Some Empty else None))) d
    ∙ ap (λ b. if deep' then Some TooDeep else (if b then Some SameAtom else (if empty then Some Empty else None))) (s refl)
    ∙ ap (λ b. if deep' then Some TooDeep else (if same' then Some SameAtom else (if b then Some Empty else None))) e

-- ---- levels

below_more : (b : Bool) (limit level least : ℕ) → nat_le limit level ≡ b → level + 1 ≤ least → nat_lt limit least ≡ (b || nat_lt limit least)
below_more true limit level least is more = lt-ltb limit least (omega (arith, leb-true limit level is, more))
below_more false limit level least is more = refl

deeper : (limit level first last : ℕ) → first ≡ last → level + 1 ≤ last → nat_lt limit first ≡ (nat_le limit level || nat_lt limit last)
deeper limit level first last same more = ap (nat_lt limit) same ∙ below_more (nat_le limit level) limit level last refl more

deepest_at : (here behind : Bool) (limit level last : ℕ) → nat_le limit level ≡ here → nat_lt limit last ≡ behind → nat_lt limit (max (level + 1) last) ≡ (here || behind)
deepest_at true behind limit level last is next = lt-ltb limit (max (level + 1) last) (omega (arith, leb-true limit level is))
deepest_at false true limit level last is next = lt-ltb limit (max (level + 1) last) (omega (arith, ltb-true limit last next))
deepest_at false false limit level last is next = le-ltb limit (max (level + 1) last) (omega (arith, leb-false limit level is, ltb-false limit last next))

deepest_of : (limit level last : ℕ) → nat_lt limit (max (level + 1) last) ≡ (nat_le limit level || nat_lt limit last)
deepest_of limit level last = deepest_at (nat_le limit level) (nat_lt limit last) limit level last refl refl

-- where so many brackets are open after the end of one
closed : (none : Bool) (level next : ℕ) → (level == 0) ≡ none → (if none then None else Some (level - 1)) ≡ Some next → level ≡ next + 1
closed true level next zero is = absurd (cc)
closed false level next zero is =
    let same : level - 1 ≡ next = some_same (level - 1) next is in
    omega (arith, same, eqb-false level 0 zero)

-- the levels after a token, and its own
deep_token : (limit : ℕ) (token : Token) (level next : ℕ) (tokens : List Token) → level_after token level ≡ Some next →
    nat_lt limit (deepest (level + 1) (token ∷ tokens)) ≡ (nat_le limit level || nat_lt limit (deepest (next + 1) tokens))
deep_token limit (Leaf port trigger) level next tokens is =
    let same : level ≡ next = some_same level next is in
    deeper limit level (deepest (level + 1) tokens) (deepest (next + 1) tokens) (ap (λ n. deepest (n + 1) tokens) same) (omega (arith, same, level_least (next + 1) tokens))
deep_token limit Open level next tokens is =
    let same : level + 1 ≡ next = some_same (level + 1) next is in
    deeper limit level (deepest (level + 1 + 1) tokens) (deepest (next + 1) tokens) (ap (λ n. deepest (n + 1) tokens) same) (omega (arith, same, level_least (next + 1) tokens))
deep_token limit (Close trigger) level next tokens is =
    let same : level ≡ next + 1 = closed (level == 0) level next refl is in
    let back : level + 1 - 1 ≡ next + 1 = omega (arith, same) in
    ap (λ n. nat_lt limit (max (level + 1) (deepest n tokens))) back ∙ deepest_of limit level (deepest (next + 1) tokens)

or_again : (a b c : Bool) → (a || (b || c)) ≡ ((a || b) || c)
or_again true b c = refl
or_again false b c = refl

-- ---- brackets

or_none : (a b : Bool) → (a || b) ≡ ((a || false) || b)
or_none true b = refl
or_none false b = refl

empty_token : (empty behind : Bool) (token : Token) (tokens : List Token) →
    ((empty || (behind && begins_with_close (token ∷ tokens))) || has_empty_bracket (token ∷ tokens))
    ≡ (((empty || (behind && is_close token)) || (is_open token && begins_with_close tokens)) || has_empty_bracket tokens)
empty_token empty behind (Leaf port trigger) tokens = or_none (empty || (behind && false)) (has_empty_bracket tokens)
empty_token empty behind Open tokens = or_again (empty || (behind && false)) (begins_with_close tokens) (has_empty_bracket tokens)
empty_token empty behind (Close trigger) tokens = or_none (empty || (behind && true)) (has_empty_bracket tokens)

-- ---- a token more

pub token_added : (old new : Shape) (token : Token) (level next : ℕ) (tokens : List Token) →
    is_too_wide_after old (atoms (ports_in (token ∷ tokens))) ≡ is_too_wide_after new (atoms (ports_in tokens)) →
    (is_too_wide_after new (atoms (ports_in tokens)) ≡ false → old.atoms.items ++ atoms (ports_in (token ∷ tokens)) ≡ new.atoms.items ++ atoms (ports_in tokens)) →
    new.is_too_deep ≡ (old.is_too_deep || nat_le MAX_DEPTH level) →
    new.has_empty_bracket ≡ (old.has_empty_bracket || (old.is_behind_open && is_close token)) →
    new.is_behind_open ≡ is_open token →
    level_after token level ≡ Some next →
    fault_after old level (token ∷ tokens) ≡ fault_after new next tokens
unfolding fault_at
token_added old new token level next tokens wide same deep empty begun behind =
    same_fault _ (is_too_wide_after new (atoms (ports_in tokens))) _ (is_too_deep_after new next tokens) _ (has_repeat (new.atoms.items ++ atoms (ports_in tokens))) _ (has_empty_after new tokens)
    wide
    (ap (λ b. old.is_too_deep || b) (deep_token MAX_DEPTH token level next tokens behind) ∙ or_again old.is_too_deep (nat_le MAX_DEPTH level) (nat_lt MAX_DEPTH (deepest (next + 1) tokens)) ∙ ap (λ b. b || nat_lt MAX_DEPTH (deepest (next + 1) tokens)) (sym deep))
    (λ few. ap has_repeat (same few))
    (empty_token old.has_empty_bracket old.is_behind_open token tokens ∙ ap (λ b. (b || (is_open token && begins_with_close tokens)) || has_empty_bracket tokens) (sym empty) ∙ ap (λ b. (new.has_empty_bracket || (b && begins_with_close tokens)) || has_empty_bracket tokens) (sym begun))

-- a token that is no port
pub no_port : (token : Token) (tokens : List Token) → ((port : Port) (trigger : Bool) → token ≡ Leaf port trigger → ⊥) → ports_in (token ∷ tokens) ≡ ports_in tokens
no_port (Leaf port trigger) tokens other = absurd (other port trigger refl)
no_port Open tokens other = refl
no_port (Close trigger) tokens other = refl
