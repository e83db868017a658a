-- Printing the elements of a list one by one.
use Rattle.std.proofs.Common.{◌≡◌, ℕ, ◌+◌, ◌<◌, ◌∙◌, ap, sym, subst, List, ◌++◌, map, length, drop, get_or}
use Rattle.std.specs.Prelude.{Option, flat_map}
use Rattle.std.specs.Io.KnownBytes.{Appends}
use Rattle.std.proofs.lemmas.List.{drop_more, get_or-map, length-map, map-append}
use Rattle.connector_tree.specs.Tokens.{children_tokens, node_tokens}
use Rattle.connector_tree.specs.declared.token.Token.{Token}
use Rattle.connector_tree.specs.declared.tree.Child.{Child}
use Rattle.text_io.specs.Numbered.{numbered}
use Rattle.text_io.proofs.Leading.{Leads, leads-element, leads-more, leads-same}

-- the next element is printed, and those after it are left
pub leads-printed : {X : Type 0} (say : X → List ℕ) (xs : List X) (i : ℕ) (d : X) (start now next : Option (List ℕ)) (all : List ℕ)
    → i < length xs → Leads start now (flat_map say (drop i xs)) all → Appends now next (say (get_or xs i d))
    → Leads start next (flat_map say (drop (i + 1) xs)) all
leads-printed say xs i d start now next all within l p =
    leads-more _ _ _ _ _ _ (leads-same l (ap (flat_map say) (drop_more xs i d within))) p

-- the same of an element that is at hand
pub leads-item : {X : Type 0} (say : X → List ℕ) (xs : List X) (i : ℕ) (x : X) (start now next : Option (List ℕ)) (all : List ℕ)
    → i < length xs → x ≡ get_or xs i x → Leads start now (flat_map say (drop i xs)) all → Appends now next (say x)
    → Leads start next (flat_map say (drop (i + 1) xs)) all
leads-item say xs i x start now next all within here l p =
    leads-printed say xs i x start now next all within l (subst (λ y. Appends now next (say y)) here p)

-- a numbered element is printed as what a function makes of it
pub leads-mapped : {X D : Type 0} (f : X → D) (say : ℕ → D → List ℕ) (xs : List X) (i : ℕ) (x : X) (start now next : Option (List ℕ)) (all : List ℕ)
    → i < length xs → x ≡ get_or xs i x → Leads start now (numbered say i (drop i (map f xs))) all → Appends now next (say i (f x))
    → Leads start next (numbered say (i + 1) (drop (i + 1) (map f xs))) all
leads-mapped f say xs i x start now next all within here l p =
    let found : f x ≡ get_or (map f xs) i (f x) = ap f here ∙ sym (get_or-map f xs i x (f x) within) in
    leads-element say (map f xs) i (f x) start now next all (subst (λ n. i < n) (sym (length-map xs f)) within) found l p

-- the same where what the function makes of the elements is known as another list
pub leads-known : {X D : Type 0} (f : X → D) (say : ℕ → D → List ℕ) (xs : List X) (ds : List D) (i : ℕ) (x : X) (start now next : Option (List ℕ)) (all : List ℕ)
    → map f xs ≡ ds → i < length xs → x ≡ get_or xs i x → Leads start now (numbered say i (drop i ds)) all → Appends now next (say i (f x))
    → Leads start next (numbered say (i + 1) (drop (i + 1) ds)) all
leads-known f say xs ds i x start now next all known within here l p =
    subst (λ made. Leads start next (numbered say (i + 1) (drop (i + 1) made)) all) known
    (leads-mapped f say xs i x start now next all within here (subst (λ made. Leads start now (numbered say i (drop i made)) all) (sym known) l) p)

-- what is made of the tokens of a child comes before what is made of those of its siblings
pub words-child : {Y : Type 0} (say : Token → Y) (children : List Child) (i : ℕ) (child : Child) → i < length children → child ≡ get_or children i child
    → map say (children_tokens (drop i children)) ≡ map say (node_tokens child.node child.trigger) ++ map say (children_tokens (drop (i + 1) children))
words-child say children i child within here =
    let later = children_tokens (drop (i + 1) children) in
    ap (λ cs. map say (children_tokens cs)) (drop_more children i child within)
    ∙ ap (λ c. map say (node_tokens c.node c.trigger ++ later)) (sym here)
    ∙ map-append say (node_tokens child.node child.trigger) later
