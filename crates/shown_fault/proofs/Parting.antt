-- The parts of an expression, each put into the form of plant texts.
use Rattle.std.proofs.Common.{◌≡◌, ◌∙◌, ap, ℕ, zero, suc, ◌-◌, ◌<◌, arith, List, take, drop, length, codes}
use Rattle.shown_fault.specs.Lent.{text_in}
use Rattle.shown_fault.specs.Prefix.{after_text, form_of, form_text, in_prefix, operation, side_level, tighter_level}
use Rattle.shown_fault.specs.declared.prefix.Form.{Form}
use Rattle.shown_fault.specs.declared.prefix.Form.TheVariants.{Operation, Minus, Negation, Enclosed}
use Rattle.shown_fault.specs.declared.tokens.TheConstants.{ADDING, LEVEL_COUNT}

-- words that have this form
by_form : (fuel level : ℕ) (tokens : List (List ℕ)) (form : Form) → 0 < fuel → form_of level tokens ≡ form →
    in_prefix fuel level tokens ≡ form_text form (λ inner parts. in_prefix (fuel - 1) inner parts) tokens
by_form zero level tokens form some is = absurd (omega arith)
by_form (suc fuel) level tokens form some is =
    let less : fuel ≡ suc fuel - 1 = omega arith in
    ap (λ (f : Form). form_text f (λ inner parts. in_prefix fuel inner parts) tokens) is ∙
    ap (λ n. form_text form (λ inner parts. in_prefix n inner parts) tokens) less

pub operation_put : (fuel level found place : ℕ) (tokens : List (List ℕ)) → 0 < fuel → form_of level tokens ≡ Operation found place →
    in_prefix fuel level tokens ≡ operation (text_in tokens place) (in_prefix (fuel - 1) (side_level found) (take place tokens)) (in_prefix (fuel - 1) (tighter_level found) (drop 1 (drop place tokens)))
operation_put fuel level found place tokens some is = by_form fuel level tokens (Operation found place) some is

pub minus_put : (fuel level : ℕ) (tokens : List (List ℕ)) → 0 < fuel → form_of level tokens ≡ Minus →
    in_prefix fuel level tokens ≡ after_text (codes " - 0") (in_prefix (fuel - 1) (tighter_level ADDING) (drop 1 tokens))
minus_put fuel level tokens some is = by_form fuel level tokens Minus some is

pub negation_put : (fuel level : ℕ) (tokens : List (List ℕ)) → 0 < fuel → form_of level tokens ≡ Negation →
    in_prefix fuel level tokens ≡ after_text (codes " !") (in_prefix (fuel - 1) LEVEL_COUNT (drop 1 tokens))
negation_put fuel level tokens some is = by_form fuel level tokens Negation some is

pub enclosed_put : (fuel level : ℕ) (tokens : List (List ℕ)) → 0 < fuel → form_of level tokens ≡ Enclosed →
    in_prefix fuel level tokens ≡ in_prefix (fuel - 1) 0 (take (length tokens - 2) (drop 1 tokens))
enclosed_put fuel level tokens some is = by_form fuel level tokens Enclosed some is
