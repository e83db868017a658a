-- What is read of a line, and what is made of it as far as there is memory.
use Rattle.std.proofs.Common.{◌≡◌, ◌∙◌, refl, sym, ap, ℕ, length, drop, List, [], ◌∷◌, ◌++◌, map, Result, Ok, Err, IfOk, IsOkAnd}
use Rattle.std.specs.Prelude.{nat_lt, is_none}
use Rattle.std.specs.declared.alloc.AllocError.{AllocError}
use Rattle.std.specs.declared.alloc.Global.{Global}
use Rattle.std.specs.declared.vec.Vec.{Vec}
use Rattle.std.proofs.lemmas.List.{map-append}
use Rattle.petri_atom.specs.Definition.{AtomDefinition, UpdateDefinition}
use Rattle.petri_atom.specs.Expression.{Tree, tree_of}
use Rattle.petri_atom.specs.Update.{update_of}
use Rattle.petri_atom.specs.declared.expression.Expression.{Expression}
use Rattle.petri_atom.specs.declared.transition.Update.{Update}
use Rattle.petri_atom.specs.declared.parts.TheConstants.{MAX_PORTS}
use Rattle.plant_words.specs.declared.expression_fault.ExpressionFault.{ExpressionFault}
use Rattle.plant_words.specs.Expressions.{words_left}
use Rattle.plant_words.specs.declared.line_fault.LineFault.TheVariants.{Limit, Twice}
use Rattle.atom_lines.specs.Making.{IsRead}
use Rattle.plant_words.specs.Reading.{check, first_name, on_line}
use Rattle.atom_lines.specs.Lookup.{port_number}
use Rattle.atom_lines.specs.Rows.{port_row, exports_in, with_port}
use Rattle.plant_words.proofs.Exits.{passes}

tree_is_made : {V : Type 0} (tree : Tree V) (words rest : List (List ℕ)) (made : Result (Expression V) AllocError) →
    IfOk made (λ e. ◌≡◌ {A = Result (Tree V × List (List ℕ)) ExpressionFault} (Ok (tree, words)) (Ok (tree_of e, rest))) → IfOk made (λ e. tree_of e ≡ tree)
tree_is_made {V = V} tree words rest (Ok e) says =
    let same : ◌≡◌ {A = Result (Tree V × List (List ℕ)) ExpressionFault} (Ok (tree, words)) (Ok (tree_of e, rest)) = says in
    let parts : ◌≡◌ {A = Tree V × List (List ℕ)} (tree, words) (tree_of e, rest) = cc in
    sym (ap (λ part. part.0) parts)
tree_is_made tree words rest (Err f) says = tt

-- an expression of a line is read where its words are one, and is what was made
pub expression_is_read : {V : Type 0} (r : Result (Tree V × List (List ℕ)) ExpressionFault) (rest : List (List ℕ)) (made : Result (Expression V) AllocError) →
    IfOk made (λ e. r ≡ Ok (tree_of e, rest)) → words_left r ≡ Ok rest → IsRead tree_of (on_line r) rest made
expression_is_read (Ok (tree, words)) rest made says left =
    let same : words ≡ rest = cc in
    record { value = tree; says = ap (λ w. Ok (tree, w)) same; is_made = tree_is_made tree words rest made says }
expression_is_read (Err fault) rest made says left = absurd (cc)

-- updates are made with one more where all of them are
pub one_more_is_made : (before : List UpdateDefinition) (last : UpdateDefinition) (updates more : Result (Vec Update Global) AllocError) (update : Result Update AllocError) →
    IfOk updates (λ b. map update_of b.items ≡ before) → IfOk update (λ u. update_of u ≡ last) →
    IfOk more (λ m. IsOkAnd updates (λ b. IsOkAnd update (λ u. m.items ≡ b.items ++ u ∷ []))) →
    IfOk more (λ m. map update_of m.items ≡ before ++ last ∷ [])
one_more_is_made before last (Ok b) (Ok m) (Ok u) first second is =
    ap (map update_of) is ∙ map-append update_of b.items (u ∷ []) ∙ ap (λ us. us ++ update_of u ∷ []) first ∙ ap (λ d. before ++ d ∷ []) second
one_more_is_made before last (Ok b) (Ok m) (Err f) first second is = absurd is
one_more_is_made before last (Err f) (Ok m) update first second is = absurd is
one_more_is_made before last updates (Err f) update first second is = tt

-- the parts of a port are one
pub port_says : (a : AtomDefinition) (words behind : List (List ℕ)) (name numbers exports : List ℕ) (u v : Unit {0}) →
    check (nat_lt (length a.ports) MAX_PORTS) Limit ≡ Ok u → first_name words ≡ Ok name → check (is_none (port_number a name)) Twice ≡ Ok v →
    behind ≡ drop 1 words → exports_in a [] behind ≡ Ok numbers → exports ≡ numbers → port_row words a ≡ Ok (with_port a (record { name = name; exports = exports }))
port_says a words behind name numbers exports u v room named new here read same =
    passes _ room (passes _ named (passes _ new (passes _ (ap (exports_in a []) (sym here) ∙ read ∙ ap Ok (sym same)) refl)))
