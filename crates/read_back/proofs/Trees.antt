-- The words of a connector's tree, read.
use Rattle.std.proofs.Common.{◌≡◌, ◌≢◌, ◌∙◌, refl, sym, ap, ℕ, ◌+◌, ◌-◌, Bool, true, false, if◌then◌else◌, List, [], ◌∷◌, ◌++◌, append-nil, map, flat_map, Option, Some, None, Ok, Err, ne_eqb, arith}
use Rattle.std.specs.List.{list_all}
use Rattle.std.specs.Option.{option_map_or}
use Rattle.std.proofs.lemmas.Bool.{and_parts, and_from, or_parts, false≢true}
use Rattle.petri_atom.specs.Definition.{AtomDefinition}
use Rattle.petri_atom.proofs.Fitting.{all_weaker}
use Rattle.connector_tree.specs.Faults.{fault_of}
use Rattle.connector_tree.specs.Tokens.{tokens_of, branch_tokens, ports_in, level_after, is_balanced}
use Rattle.connector_tree.specs.Tree.{Tree, no_child, child, Branch, leaf, bracket, leaves, is_empty, has_empty_bracket}
use Rattle.connector_tree.specs.declared.faults.TreeFault.{TreeFault}
use Rattle.connector_tree.specs.declared.token.Token.{Token}
use Rattle.connector_tree.specs.declared.token.Token.TheVariants.{Leaf, Open, Close}
use Rattle.connector_tree.proofs.OneTree.{one_tree}
use Rattle.connector_tree.proofs.Sound.{sound}
use Rattle.connector_tree.proofs.TokenFaults.{fault-tree}
use Rattle.connector_tree.proofs.TokenLeaves.{ports-tree}
use Rattle.connector_tree.proofs.Written.{bracket_before, child_before}
use Rattle.plant_model.specs.Rules.{is_known_port}
use Rattle.plant_words.specs.Words.{words_of}
use Rattle.connector_lines.specs.Tokens.{Names, token_in, led_by, behind, tokens_in}
use Rattle.connector_lines.specs.Trees.{unless, tree_in}
use Rattle.connector_lines.specs.declared.tree_words_fault.TreeWordsFault.TheVariants as fault
use Rattle.connector_lines.proofs.Readings.{tree_of_tokens}
use Rattle.plant_text.specs.Names.{port_named}
use Rattle.part_text.specs.Words.{token_word, spaced_word}
use Rattle.read_back.specs.Names.{are_named_atoms}
use Rattle.read_back.proofs.Words.{is_one_word, words_found}
use Rattle.read_back.proofs.Tokens.{is_known_token, token_read, token_is_one_word}

-- ---- the brackets of a tree

-- the tokens of children, and of a branch, leave as many brackets open as they find
mutual
  balanced_before : (tree : Tree) (level : ℕ) (rest : List Token) → is_balanced level (tokens_of tree ++ rest) ≡ is_balanced level rest
  balanced_before no_child level rest = refl
  balanced_before (child trigger branch tree) level rest =
      ap (is_balanced level) (child_before trigger branch tree rest)
      ∙ branch_balanced branch trigger level (tokens_of tree ++ rest)
      ∙ balanced_before tree level rest

  branch_balanced : (branch : Branch) (trigger : Bool) (level : ℕ) (rest : List Token) → is_balanced level (branch_tokens branch trigger ++ rest) ≡ is_balanced level rest
  branch_balanced (leaf atom port) trigger level rest = refl
  branch_balanced (bracket tree) trigger level rest =
      let less : level + 1 - 1 ≡ level = omega arith in
      ap (is_balanced level) (bracket_before tree trigger rest)
      ∙ balanced_before tree (level + 1) (Close trigger ∷ rest)
      ∙ ap (λ (none : Bool). option_map_or (λ next. is_balanced next rest) (if none then None else Some (level + 1 - 1)) false) (ne_eqb (level + 1) 0 (λ same. omega (arith, same)))
      ∙ ap (λ (n : ℕ). is_balanced n rest) less

balanced : (tree : Tree) → is_balanced 0 (tokens_of tree) ≡ true
balanced tree = ap (is_balanced 0) (sym (append-nil (tokens_of tree))) ∙ balanced_before tree 0 []

-- ---- the tokens of words

-- a token in front of those that words say, where its bracket may end
led_on : (named : Names) (words : List (List ℕ)) (token : Token) (tokens : List Token) → ((next : ℕ) → is_balanced next tokens ≡ true → tokens_in named next words ≡ Ok tokens) →
    (level : Option ℕ) → option_map_or (λ next. is_balanced next tokens) level false ≡ true → option_map_or (λ next. led_by token (tokens_in named next words)) level (Err fault.Shape) ≡ Ok (token ∷ tokens)
led_on named words token tokens said None closed = absurd (false≢true closed)
led_on named words token tokens said (Some next) closed = ap (led_by token) (said next closed)

-- where each word says a token, words say the tokens, if their brackets are balanced
tokens_read : (named : Names) (say : Token → List ℕ) (known : Token → Bool) → ((token : Token) → known token ≡ true → token_in named (say token) ≡ Ok token) →
    (tokens : List Token) (level : ℕ) → list_all known tokens ≡ true → is_balanced level tokens ≡ true → tokens_in named level (map say tokens) ≡ Ok tokens
tokens_read named say known says [] level all closed = ap (λ (none : Bool). if none then Ok [] else Err fault.Shape) closed
tokens_read named say known says (token ∷ tokens) level all closed =
    let parts = and_parts (known token) (list_all known tokens) all in
    ap (λ said. behind said level (λ next. tokens_in named next (map say tokens))) (says token parts.0)
    ∙ led_on named (map say tokens) token tokens (λ next balanced. tokens_read named say known says tokens next parts.1 balanced) (level_after token level) closed

-- ---- trees

-- tokens whose ports are there
known_tokens : (atoms : List AtomDefinition) (tokens : List Token) → list_all (is_known_port atoms) (ports_in tokens) ≡ true → list_all (is_known_token atoms) tokens ≡ true
known_tokens atoms [] all = refl
known_tokens atoms (Leaf port trigger ∷ tokens) all =
    let parts = and_parts (is_known_port atoms port) (list_all (is_known_port atoms) (ports_in tokens)) all in
    and_from (is_known_port atoms port) (list_all (is_known_token atoms) tokens) parts.0 (known_tokens atoms tokens parts.1)
known_tokens atoms (Open ∷ tokens) all = known_tokens atoms tokens all
known_tokens atoms (Close trigger ∷ tokens) all = known_tokens atoms tokens all

-- a tree with a child has a token, and so a word
some_word : (say : Token → List ℕ) (tree : Tree) → is_empty tree ≡ false → map say (tokens_of tree) ≢ []
some_word say no_child some = absurd (false≢true (sym some))
some_word say (child trigger (leaf atom port) tree) some = λ none. absurd (cc)
some_word say (child trigger (bracket inner) tree) some = λ none. absurd (cc)

-- no words are no tree
nothing_read : (atoms : List AtomDefinition) (tree : Tree) (read : List Token) → is_empty tree ≡ true →
    tree_in (port_named atoms) (words_of (flat_map (spaced_word atoms) (tokens_of tree))) ≡ Ok read → ⊥
nothing_read atoms no_child read none is = cc
nothing_read atoms (child trigger branch tree) read none is = false≢true none

module _ (atoms : List AtomDefinition) (named : are_named_atoms atoms ≡ true) (tree : Tree) (known : list_all (is_known_port atoms) (leaves tree) ≡ true) where
  abbrev tokens : List Token
  tokens = tokens_of tree

  abbrev text : List ℕ
  text = flat_map (spaced_word atoms) tokens

  all_known : list_all (is_known_token atoms) tokens ≡ true
  all_known = known_tokens atoms tokens (ap (list_all (is_known_port atoms)) (ports-tree tree) ∙ known)

  words_are : words_of text ≡ map (token_word atoms) tokens
  words_are = words_found (token_word atoms) tokens (all_weaker (is_known_token atoms) (λ token. is_one_word (token_word atoms token)) (token_is_one_word atoms named) tokens all_known)

  -- the words of a tree with a child are read as its tokens, or its fault is found
  pub tree_or_fault : is_empty tree ≡ false → tree_in (port_named atoms) (words_of text) ≡ unless tokens (fault_of tree)
  tree_or_fault some =
      ap (tree_in (port_named atoms)) words_are
      ∙ tree_of_tokens (port_named atoms) (map (token_word atoms) tokens) tokens (fault_of tree) (some_word (token_word atoms) tree some)
      (tokens_read (port_named atoms) (token_word atoms) (is_known_token atoms) (token_read atoms named) tokens 0 all_known (balanced tree)) (fault-tree tree)

  -- a tree without a fault
  pub tree_is_read : fault_of tree ≡ None → tree_in (port_named atoms) (words_of text) ≡ Ok tokens
  tree_is_read none =
      let some = or_parts (is_empty tree) (has_empty_bracket tree) (sound tree none).none_empty in
      tree_or_fault some.0 ∙ ap (unless tokens) none

  -- and one with one
  pub fault_is_found : is_empty tree ≡ false → (told : TreeFault) → fault_of tree ≡ Some told → tree_in (port_named atoms) (words_of text) ≡ Err (fault.Tree told)
  fault_is_found some told is = tree_or_fault some ∙ ap (unless tokens) is

  -- what is read is the tree
  pub one_is_read : (other : Tree) → tree_in (port_named atoms) (words_of text) ≡ Ok (tokens_of other) → other ≡ tree
  one_is_read other read = each (is_empty tree) refl
    where
      same_tokens : (told : Option TreeFault) → unless tokens told ≡ Ok (tokens_of other) → tokens_of other ≡ tokens
      same_tokens None is = cc
      same_tokens (Some told) is = absurd (cc)

      each : (empty : Bool) → is_empty tree ≡ empty → other ≡ tree
      each true none = absurd (nothing_read atoms tree (tokens_of other) none read)
      each false some = one_tree other tree (same_tokens (fault_of tree) (sym (tree_or_fault some) ∙ read))
