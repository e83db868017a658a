-- Laws of readings.
use Rattle.std.proofs.Common.{◌≡◌, ◌≢◌, ℕ, ◌<◌, ◌==◌, Bool, true, false, if◌then◌else◌, List, [], ◌∷◌, ◌++◌, length, Option, Some, None, Result, Ok, Err, IfOk, IsOkAnd, refl, ap, sym, subst, ◌∙◌, append_assoc, append-nil, arith}
use Rattle.std.specs.Option.{option_map_or}
use Rattle.std.specs.declared.alloc.AllocError.{AllocError}
use Rattle.std.specs.declared.alloc.Global.{Global}
use Rattle.std.specs.declared.vec.Vec.{Vec}
use Rattle.connector_tree.specs.declared.faults.TreeFault.{TreeFault}
use Rattle.connector_tree.specs.declared.token.Token.{Token}
use Rattle.connector_tree.specs.Tokens.{level_after, is_balanced}
use Rattle.connector_tree.specs.TokenFaults.{fault_in}
use Rattle.connector_lines.specs.declared.tree_words_fault.TreeWordsFault.{TreeWordsFault}
use Rattle.connector_lines.specs.declared.tree_words_fault.TreeWordsFault.TheVariants.{Shape}
use Rattle.connector_lines.specs.Tokens.{Names, Reading, token_in, led_by, behind, tokens_in}
use Rattle.connector_lines.specs.Trees.{unless, judged, tree_in}

-- tokens in front of those that are read after them
abbrev pub after_all : List Token → Reading → Reading
after_all before (Ok tokens) = Ok (before ++ tokens)
after_all before (Err fault) = Err fault

-- tokens whose brackets are balanced, where some were read
IsBalanced : ℕ → Reading → Type 0
IsBalanced level reading = IfOk reading (λ tokens. is_balanced level tokens ≡ true)

at_end : (b : Bool) (level : ℕ) → (level == 0) ≡ b → IsBalanced level (if b then Ok [] else Err Shape)
unfolding IsBalanced
at_end true level h = h
at_end false level h = tt

at_rest : (token : Token) (level next : ℕ) (reading : Reading) → level_after token level ≡ Some next → IsBalanced next reading → IsBalanced level (led_by token reading)
unfolding IsBalanced
at_rest token level next (Ok tokens) h balanced = ap (λ o. option_map_or (λ n. is_balanced n tokens) o false) h ∙ balanced
at_rest token level next (Err fault) h balanced = tt

at_level : (token : Token) (level : ℕ) (o : Option ℕ) (read : ℕ → Reading) → level_after token level ≡ o → ((next : ℕ) → IsBalanced next (read next)) → IsBalanced level (option_map_or (λ next. led_by token (read next)) o (Err Shape))
unfolding IsBalanced
at_level token level None read h each = tt
at_level token level (Some next) read h each = at_rest token level next (read next) h (each next)

at_word : (word : Result Token TreeWordsFault) (level : ℕ) (read : ℕ → Reading) → ((next : ℕ) → IsBalanced next (read next)) → IsBalanced level (behind word level read)
unfolding IsBalanced
at_word (Err fault) level read each = tt
at_word (Ok token) level read each = at_level token level (level_after token level) read refl each

at_words : (named : Names) (words : List (List ℕ)) (level : ℕ) → IsBalanced level (tokens_in named level words)
at_words named [] level = at_end (level == 0) level refl
at_words named (word ∷ words) level = at_word (token_in named word) level (λ next. tokens_in named next words) (λ next. at_words named words next)

-- the tokens of words are balanced
pub balanced : (named : Names) (words : List (List ℕ)) (level : ℕ) (tokens : List Token) → tokens_in named level words ≡ Ok tokens → is_balanced level tokens ≡ true
unfolding IsBalanced
balanced named words level tokens h = subst (λ r. IsBalanced level r) h (at_words named words level)

-- ---- trees of words

-- words that are there are a tree where their tokens are
tree_of_some : (named : Names) (words : List (List ℕ)) → words ≢ [] → tree_in named words ≡ judged (tokens_in named 0 words)
tree_of_some named [] some = absurd (some refl)
tree_of_some named (word ∷ words) some = refl

-- if no word is left, the tokens are those before
pub all_read : (named : Names) (words : List (List ℕ)) (before : List Token) (level : ℕ) (rest : Reading) → after_all before rest ≡ tokens_in named 0 words → rest ≡ Ok [] → tokens_in named 0 words ≡ Ok before
all_read named words before level rest all is = sym all ∙ ap (after_all before) is ∙ ap Ok (append-nil before)

-- the tokens of words are a tree, or have its fault
pub tree_of_tokens : (named : Names) (words : List (List ℕ)) (tokens : List Token) (fault : Option TreeFault) → words ≢ [] → tokens_in named 0 words ≡ Ok tokens → fault_in tokens ≡ fault → tree_in named words ≡ unless tokens fault
tree_of_tokens named words tokens fault some read is = tree_of_some named words some ∙ ap judged read ∙ ap (unless tokens) is

first_led : (token : Token) (read : Reading) → led_by token read ≢ Ok []
first_led token (Ok tokens) is = absurd (cc)
first_led token (Err fault) is = absurd (cc)

none_led : (token : Token) (level : Option ℕ) (read : ℕ → Reading) → option_map_or (λ next. led_by token (read next)) level (Err Shape) ≢ Ok []
none_led token None read is = absurd (cc)
none_led token (Some next) read is = first_led token (read next) is

no_tokens : (said : Result Token TreeWordsFault) (level : ℕ) (read : ℕ → Reading) → behind said level read ≢ Ok []
no_tokens (Err fault) level read is = absurd (cc)
no_tokens (Ok token) level read is = none_led token (level_after token level) read is

-- words that are there have tokens
pub some_tokens : (named : Names) (words : List (List ℕ)) (tokens : List Token) → words ≢ [] → tokens_in named 0 words ≡ Ok tokens → 0 < length tokens
some_tokens named [] tokens some read = absurd (some refl)
some_tokens named (word ∷ words) [] some read = absurd (no_tokens (token_in named word) 0 (λ next. tokens_in named next words) read)
some_tokens named (word ∷ words) (token ∷ tokens) some read = omega arith

-- what is read is a tree where its tokens are read and have no fault
unless_read : (tokens read : List Token) (fault : Option TreeFault) → unless tokens fault ≡ Ok read → (tokens ≡ read) × (fault ≡ None)
unless_read tokens read None is = (cc, refl)
unless_read tokens read (Some fault) is = absurd (cc)

judged_read : (read : Reading) (tokens : List Token) → judged read ≡ Ok tokens → (read ≡ Ok tokens) × (fault_in tokens ≡ None)
judged_read (Err fault) tokens is = absurd (cc)
judged_read (Ok some) tokens is =
    let found = unless_read some tokens (fault_in some) is in
    (ap Ok found.0, ap fault_in (sym found.0) ∙ found.1)

pub tree_read : (named : Names) (words : List (List ℕ)) (tokens : List Token) → tree_in named words ≡ Ok tokens → (tokens_in named 0 words ≡ Ok tokens) × (fault_in tokens ≡ None)
tree_read named [] tokens is = absurd (cc)
tree_read named (word ∷ words) tokens is = judged_read (tokens_in named 0 (word ∷ words)) tokens is

-- ---- one word after the other

what_word_says : (named : Names) (level : ℕ) (words rest : List (List ℕ)) (word : List ℕ) (token : Token) (next : Option ℕ) → words ≡ word ∷ rest → token_in named word ≡ Ok token → level_after token level ≡ next →
    tokens_in named level words ≡ option_map_or (λ n. led_by token (tokens_in named n rest)) next (Err Shape)
what_word_says named level words rest word token next is said goes =
    ap (tokens_in named level) is ∙ ap (λ r. behind r level (λ n. tokens_in named n rest)) said ∙ ap (λ o. option_map_or (λ n. led_by token (tokens_in named n rest)) o (Err Shape)) goes

led_after : (before : List Token) (token : Token) (r : Reading) → after_all (before ++ token ∷ []) r ≡ after_all before (led_by token r)
led_after before token (Ok tokens) = ap Ok (append_assoc before (token ∷ []) tokens)
led_after before token (Err fault) = refl

-- the token of the next word stands after those before
pub word_is_after : (named : Names) (before : List Token) (level next : ℕ) (words rest : List (List ℕ)) (word : List ℕ) (token : Token) → words ≡ word ∷ rest → token_in named word ≡ Ok token → level_after token level ≡ Some next →
    after_all (before ++ token ∷ []) (tokens_in named next rest) ≡ after_all before (tokens_in named level words)
word_is_after named before level next words rest word token is said goes =
    led_after before token (tokens_in named next rest) ∙ sym (ap (after_all before) (what_word_says named level words rest word token (Some next) is said goes))

-- no bracket is open after the last word
pub all_closed : (named : Names) (level : ℕ) (words : List (List ℕ)) → words ≡ [] → level ≡ 0 → tokens_in named level words ≡ Ok []
all_closed named level words none closed = ap (tokens_in named level) none ∙ ap (λ n. tokens_in named n []) closed

-- tokens are made with one more where all of them are
pub one_more_is_made : (before : List Token) (token : Token) (tokens more : Result (Vec Token Global) AllocError) →
    IfOk tokens (λ b. b.items ≡ before) → IfOk more (λ m. IsOkAnd tokens (λ b. m.items ≡ b.items ++ token ∷ [])) → IfOk more (λ m. m.items ≡ before ++ token ∷ [])
one_more_is_made before token (Ok b) (Ok m) made is = is ∙ ap (λ tokens. tokens ++ token ∷ []) made
one_more_is_made before token (Err f) (Ok m) made is = absurd is
one_more_is_made before token tokens (Err f) made is = tt
