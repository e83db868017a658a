-- The ports, the exported variables and the places that lines name are there, and stay there with each further line.
use Rattle.std.proofs.Common.{◌≡◌, ◌∙◌, refl, sym, ap, subst, ℕ, zero, suc, ◌+◌, ◌<◌, arith, Bool, true, false, List, [], ◌∷◌, ◌++◌, length, Option, Some, None}
use Rattle.std.specs.Prelude.{nat_lt, slice_get, option_map}
use Rattle.std.specs.Option.{option_and_then, option_map_or}
use Rattle.std.proofs.lemmas.Bool.{and_from, and_parts, false≢true, lt-ltb, ltb-true}
use Rattle.std.proofs.lemmas.List.{length-append}
use Rattle.petri_atom.specs.Definition.{AtomDefinition, PortDefinition, exports_of}
use Rattle.petri_atom.specs.Expression.{Tree, number, variable, negation, operation, all_variables}
use Rattle.petri_atom.specs.Name.{is_same_text}
use Rattle.connector_tree.specs.declared.tree.Port.{Port}
use Rattle.priority_filter.specs.declared.rule.Rule.{Rule}
use Rattle.priority_filter.specs.declared.rule.Rule.TheVariants.{Under, UnderAt, Maximal}
use Rattle.priority_filter.specs.declared.seen.At.{At}
use Rattle.plant_model.specs.Rules.{is_known_port, is_exported, is_known_export, is_known_place, is_known_condition}
use Rattle.plant_model.specs.declared.wire.Export.{Export}
use Rattle.atom_lines.specs.Lookup.{place_number, port_number, export_number, is_named}
use Rattle.atom_lines.proofs.Growing.{Grows}
use Rattle.plant_words.proofs.Positions.{position-within}
use Rattle.connector_lines.specs.Exports.{variable_in}
use Rattle.connector_lines.specs.Parts.{Passes}
use Rattle.connector_lines.proofs.NamedExports.{variables_pass}
use Rattle.plant_text.specs.Names.{atom_number, port_at, port_named, place_named, export_named}

-- ---- what is named is there

-- a port that is named
port-known : (atoms : List AtomDefinition) (name : List ℕ) (p : Port) (number : Option ℕ) →
    option_and_then (port_at atoms name) number ≡ Some p → is_known_port atoms p ≡ true
port-known atoms name p None told = absurd (cc)
port-known atoms name p (Some n) told = at_atom (slice_get atoms n) refl told
  where
    at_port : (a : AtomDefinition) → slice_get atoms n ≡ Some a → (found : Option ℕ) → port_number a name ≡ found →
        option_map (λ port. record { atom = n; port = port }) found ≡ Some p → is_known_port atoms p ≡ true
    at_port a there None is named = absurd (cc)
    at_port a there (Some k) is named =
        let same : record { atom = n; port = k } ≡ p = cc in
        subst (λ q. is_known_port atoms q ≡ true) same
        (ap (λ o. option_map_or (λ b. nat_lt k (length b.ports)) o false) there ∙ lt-ltb k (length a.ports) (position-within (λ q. is_same_text q.name name) a.ports k is))

    at_atom : (found : Option AtomDefinition) → slice_get atoms n ≡ found →
        option_and_then (λ a. option_map (λ port. record { atom = n; port = port }) (port_number a name)) found ≡ Some p →
        is_known_port atoms p ≡ true
    at_atom None there named = absurd (cc)
    at_atom (Some a) there named = at_port a there (port_number a name) refl named

pub port_known : (atoms : List AtomDefinition) (atom port : List ℕ) (p : Port) → port_named atoms atom port ≡ Some p → is_known_port atoms p ≡ true
port_known atoms atom port p told = port-known atoms port p (atom_number atoms atom) told

-- an exported variable that is named
export-known : (atoms : List AtomDefinition) (port : Port) (name : List ℕ) (k : ℕ) → export_named atoms port name ≡ Some k →
    is_exported atoms port k ≡ true
export-known atoms port name k told = at_atom (slice_get atoms port.atom) refl told
  where
    at_atom : (found : Option AtomDefinition) → slice_get atoms port.atom ≡ found →
        option_and_then (λ a. export_number a port.port name) found ≡ Some k → is_exported atoms port k ≡ true
    at_atom None there named = absurd (cc)
    at_atom (Some a) there named =
        ap (λ o. option_map_or (λ b. nat_lt k (length (exports_of b port.port))) o false) there ∙
        lt-ltb k (length (exports_of a port.port)) (position-within (is_named a.variables name) (exports_of a port.port) k named)

pub variables_known : (atoms : List AtomDefinition) (ports : List Port) →
    Passes (is_known_export atoms ports) (variable_in (atom_number atoms) (export_named atoms) ports)
variables_known atoms ports =
    variables_pass (is_known_export atoms ports) (atom_number atoms) (export_named atoms) ports
    (λ leaf port name export there named. ap (λ o. option_map_or (λ p. is_exported atoms p export) o false) there ∙ export-known atoms port name export named)

-- a place that is named
pub place_known : (atoms : List AtomDefinition) (at : At) (name : List ℕ) → place_named atoms at.atom name ≡ Some at.place → is_known_place atoms at ≡ true
place_known atoms at name told = at_atom (slice_get atoms at.atom) refl told
  where
    at_atom : (found : Option AtomDefinition) → slice_get atoms at.atom ≡ found →
        option_and_then (λ a. place_number a name) found ≡ Some at.place → is_known_place atoms at ≡ true
    at_atom None there named = absurd (cc)
    at_atom (Some a) there named =
        ap (λ o. option_map_or (λ b. nat_lt at.place (length b.places)) o false) there ∙
        lt-ltb at.place (length a.places) (position-within (λ p. is_same_text p.name name) a.places at.place named)

-- ---- what is there stays there

-- each port, each exported variable and each place of the first atoms is there among the second
pub record Extends (atoms next : List AtomDefinition) : Type 0 where
  pub ports : (p : Port) → is_known_port atoms p ≡ true → is_known_port next p ≡ true
  pub places : (at : At) → is_known_place atoms at ≡ true → is_known_place next at ≡ true
  pub exports : (p : Port) (e : ℕ) → is_exported atoms p e ≡ true → is_exported next p e ≡ true

-- a test of the one with a number, with more after
with_more : {X : Type 0} (test : X → Bool) (xs more : List X) (n : ℕ) → option_map_or test (slice_get xs n) false ≡ true →
    option_map_or test (slice_get (xs ++ more) n) false ≡ true
with_more test [] more n passes = absurd (false≢true passes)
with_more test (x ∷ xs) more zero passes = passes
with_more test (x ∷ xs) more (suc n) passes = with_more test xs more n passes

-- the same, with another last one that passes where the last does
with_last_changed : {X : Type 0} (test : X → Bool) (front : List X) (x y : X) (n : ℕ) → (test x ≡ true → test y ≡ true) →
    option_map_or test (slice_get (front ++ x ∷ []) n) false ≡ true → option_map_or test (slice_get (front ++ y ∷ []) n) false ≡ true
with_last_changed test [] x y zero weaker passes = weaker passes
with_last_changed test [] x y (suc n) weaker passes = absurd (false≢true passes)
with_last_changed test (z ∷ front) x y zero weaker passes = passes
with_last_changed test (z ∷ front) x y (suc n) weaker passes = with_last_changed test front x y n weaker passes

-- with one atom more
pub extended : (atoms : List AtomDefinition) (a : AtomDefinition) → Extends atoms (atoms ++ a ∷ [])
extended atoms a = record {
  ports = λ p. with_more (λ b. nat_lt p.port (length b.ports)) atoms (a ∷ []) p.atom;
  places = λ at. with_more (λ b. nat_lt at.place (length b.places)) atoms (a ∷ []) at.atom;
  exports = λ p e. with_more (λ b. nat_lt e (length (exports_of b p.port))) atoms (a ∷ []) p.atom;
}

-- the variables that a port exports are the same with more ports after
exports-more : (e : ℕ) (ports more : List PortDefinition) (n : ℕ) →
    nat_lt e (length (option_map_or (λ p. p.exports) (slice_get ports n) [])) ≡ true →
    nat_lt e (length (option_map_or (λ p. p.exports) (slice_get (ports ++ more) n) [])) ≡ true
exports-more e [] more n known = let none : e < 0 = ltb-true e 0 known in absurd (omega (arith, none))
exports-more e (p ∷ ports) more zero known = known
exports-more e (p ∷ ports) more (suc n) known = exports-more e ports more n known

-- with more in the last atom
pub extended_last : (front : List AtomDefinition) (a grown : AtomDefinition) → Grows a grown → Extends (front ++ a ∷ []) (front ++ grown ∷ [])
extended_last front a grown grows = record {
  ports = λ p. with_last_changed (λ b. nat_lt p.port (length b.ports)) front a grown p.atom (more_ports p.port);
  places = λ at. with_last_changed (λ b. nat_lt at.place (length b.places)) front a grown at.atom (more_places at.place);
  exports = λ p e. with_last_changed (λ b. nat_lt e (length (exports_of b p.port))) front a grown p.atom (more_exports p.port e);
}
  where
    more_ports : (n : ℕ) → nat_lt n (length a.ports) ≡ true → nat_lt n (length grown.ports) ≡ true
    more_ports n known =
        let count : length grown.ports ≡ length a.ports + length grows.more = ap length grows.ports ∙ length-append a.ports grows.more in
        lt-ltb n (length grown.ports) (omega (arith, count, ltb-true n (length a.ports) known))

    more_places : (n : ℕ) → nat_lt n (length a.places) ≡ true → nat_lt n (length grown.places) ≡ true
    more_places n known = lt-ltb n (length grown.places) (omega (arith, grows.places, ltb-true n (length a.places) known))

    more_exports : (n e : ℕ) → nat_lt e (length (exports_of a n)) ≡ true → nat_lt e (length (exports_of grown n)) ≡ true
    more_exports n e known =
        subst (λ ps. nat_lt e (length (option_map_or (λ p. p.exports) (slice_get ps n) [])) ≡ true) (sym grows.ports) (exports-more e a.ports grows.more n known)

-- the conditions of rules
pub condition_stays : (atoms next : List AtomDefinition) → Extends atoms next → (rule : Rule) → is_known_condition atoms rule ≡ true → is_known_condition next rule ≡ true
condition_stays atoms next extends (Under left right) known = refl
condition_stays atoms next extends (UnderAt left right at) known = extends.places at known
condition_stays atoms next extends (Maximal connector) known = refl

-- exported variables of leaves
pub exports_stay : (atoms next : List AtomDefinition) → Extends atoms next → (ports : List Port) (e : Export) →
    is_known_export atoms ports e ≡ true → is_known_export next ports e ≡ true
exports_stay atoms next extends ports e = at_leaf (slice_get ports e.leaf)
  where
    at_leaf : (found : Option Port) → option_map_or (λ p. is_exported atoms p e.export) found false ≡ true →
        option_map_or (λ p. is_exported next p e.export) found false ≡ true
    at_leaf None known = absurd (false≢true known)
    at_leaf (Some p) known = extends.exports p e.export known

-- variables that pass a test pass a weaker one
pub variables_weaker : {V : Type 0} (f g : V → Bool) → ((v : V) → f v ≡ true → g v ≡ true) → (e : Tree V) →
    all_variables f e ≡ true → all_variables g e ≡ true
variables_weaker f g weaker (number n) all = refl
variables_weaker f g weaker (variable v) all = weaker v all
variables_weaker f g weaker (negation e) all = variables_weaker f g weaker e all
variables_weaker f g weaker (operation o a b) all =
    let parts = and_parts (all_variables f a) (all_variables f b) all in
    and_from _ _ (variables_weaker f g weaker a parts.0) (variables_weaker f g weaker b parts.1)
