use Rattle.std.proofs.Common.{◌≡◌, ◌/◌, ◌%◌, ◌&&◌, ◌||◌, ◌∙◌, not, ℕ, Bool, refl, ap, sym, true, false, ⊎_elim}
use Rattle.std.specs.Prelude.{bit_and}
use Rattle.std.specs.FinSet.{contains}
use Rattle.std.proofs.lemmas.Bool.{and_right, cases_Bool, false≢true, or_cases, true≢false}
use Rattle.priority_filter.specs.Members.{has_bit}
use Rattle.priority_filter.proofs.Words.{bit-and}
use Rattle.plant_model.specs.ConnectorRows.{is_of_connector}
use Rattle.plant_model.specs.Ranks.{is_head_of, is_in_rest}
use Rattle.plant_model.specs.System.{interactions_in, plant_of}
use Rattle.step_core.specs.Standing.{is_always_below, is_always_overruled}
use Rattle.step_core.proofs.OwnRange.{own-of}
use Rattle.step_core.proofs.Ranked.{above-by, connector-of, flat-none, over-none, under-there}
use Rattle.step_core.proofs.SystemConnectors.{of-one}
use Rattle.step_core.proofs.keeping.Keeping.word_kept.Goals.{Joined-not-rank, then-not-rank, else-not-rank}
use Rattle.step_core.proofs.keeping.Keeping.word_kept.Goals as goal

-- where all that is not left of the connector's possible ones is overruled, and what is left is not, the bits tell which are kept
told : (own can over bit : Bool) → ((can && own) ≡ false → bit ≡ false) → ((can && own) ≡ true → bit ≡ false → over ≡ true) → (bit ≡ true → over ≡ false) → bit ≡ (own && (can && not over))
told true true over true within gone free = sym (ap not (free refl))
told true true over false within gone free = sym (ap not (gone refl refl))
told true false over bit within gone free = within refl
told false true over bit within gone free = within refl
told false false over bit within gone free = within refl

-- the possible ones of the connector
possible-own : (c : Joined-not-rank) (n : ℕ) → n / 64 ≡ c.args.place → has_bit (bit_and c.word.result c.word-2.result) (n % 64) ≡ (contains c.args.self.now.possible.now n && is_of_connector (interactions_in c.args.self.now.system.now) c.args.connector n)
possible-own c n here =
    bit-and c.word.result c.word-2.result (n % 64) ∙ ap (λ b. b && has_bit c.word-2.result (n % 64)) (c.word.ensures n here) ∙
    ap (λ b. contains c.args.self.now.possible.now n && b) (c.word-2.ensures n here ∙ own-of c.args.self.now.system.now c.args.connector c.args.rows.now c.requires.connector c.requires.rows n)

within : (c : Joined-not-rank) (n : ℕ) → n / 64 ≡ c.args.place → (contains c.args.self.now.possible.now n && is_of_connector (interactions_in c.args.self.now.system.now) c.args.connector n) ≡ false → has_bit c.if-not-rank.word (n % 64) ≡ false
within c n here out =
    elim c.if-not-rank.branch [
      | then-not-rank w ↦ ap (λ x. has_bit x (n % 64)) w.word-is ∙ w.without_lower-word.ensures.within (n % 64) (possible-own c n here ∙ out)
      | else-not-rank w ↦ ap (λ x. has_bit x (n % 64)) w.word-is ∙ possible-own c n here ∙ out
    ]

gone : (c : Joined-not-rank) (n : ℕ) → n / 64 ≡ c.args.place → (contains c.args.self.now.possible.now n && is_of_connector (interactions_in c.args.self.now.system.now) c.args.connector n) ≡ true → has_bit c.if-not-rank.word (n % 64) ≡ false
    → is_always_overruled (plant_of c.args.self.now.system.now) (interactions_in c.args.self.now.system.now) (contains c.args.self.now.rivals.now) n ≡ true
gone c n here inside out =
    elim c.if-not-rank.branch [
      | then-not-rank w ↦ w.without_lower-word.ensures.gone n here (possible-own c n here ∙ inside) (sym (ap (λ x. has_bit x (n % 64)) w.word-is) ∙ out)
      | else-not-rank w ↦ absurd (true≢false (sym (ap (λ x. has_bit x (n % 64)) w.word-is ∙ possible-own c n here ∙ inside) ∙ out))
    ]

-- what is left is of the connector
owned : (c : Joined-not-rank) (n : ℕ) → n / 64 ≡ c.args.place → has_bit c.if-not-rank.word (n % 64) ≡ true → is_of_connector (interactions_in c.args.self.now.system.now) c.args.connector n ≡ true
owned c n here left =
    let own = is_of_connector (interactions_in c.args.self.now.system.now) c.args.connector n in
    ⊎_elim
    (λ its. its)
    (λ no_. absurd (false≢true (sym (within c n here (and_right (contains c.args.self.now.possible.now n) own no_)) ∙ left)))
    (cases_Bool own)

-- and no rival of the connector is above it
unbeaten : (c : Joined-not-rank) (n m : ℕ) → n / 64 ≡ c.args.place → has_bit c.if-not-rank.word (n % 64) ≡ true
    → is_of_connector (interactions_in c.args.self.now.system.now) c.args.connector m ≡ true → contains c.args.self.now.rivals.now m ≡ true
    → is_always_below (plant_of c.args.self.now.system.now) (interactions_in c.args.self.now.system.now) n m ≡ true → ⊥
unbeaten c n m here left its rival up =
    elim c.if-not-rank.branch [
      | then-not-rank w ↦ false≢true (sym (ap (λ x. has_bit x (n % 64)) w.word-is ∙ w.without_lower-word.ensures.goes n m here its rival up) ∙ left)
      | else-not-rank w ↦ false≢true (sym (flat-none c.args.self.now.system.now c.args.connector c.args.rank.now c.requires.rank w.if-not-rank.false n m (owned c n here left) its) ∙ up)
    ]

pub without_overruled-requires-clause-there : goal.without_overruled-requires-clause-there
without_overruled-requires-clause-there c n here left = of-one c.args.self.now.system.now n c.args.connector (owned c n here left)

pub returns : goal.returns
returns c n here =
    let system = c.args.self.now.system.now in
    let all = interactions_in system in
    let rivals = contains c.args.self.now.rivals.now in
    let connector = c.args.connector in
    let rank = c.args.rank.now in
    let word = c.if-not-rank.word in
    let rest = c.without_overruled in
    told (is_of_connector all connector n) (contains c.args.self.now.possible.now n) (is_always_overruled (plant_of system) all rivals n) (has_bit rest.result (n % 64))
    (λ out. rest.ensures.within (n % 64) (within c.before n here out))
    (λ inside out. ⊎_elim
    (λ still. rest.ensures.gone n here still out)
    (λ went. gone c.before n here inside went)
    (cases_Bool (has_bit word (n % 64))))
    (λ left.
    let still : has_bit word (n % 64) ≡ true = ⊎_elim (λ yes_. yes_) (λ no_. absurd (false≢true (sym (rest.ensures.within (n % 64) no_) ∙ left))) (cases_Bool (has_bit word (n % 64))) in
    let own = owned c.before n here still in
    over-none system rivals n
    (λ m rival up. ⊎_elim
    (λ its. unbeaten c.before n m here still its rival up)
    (λ apart.
    let of = connector-of system m (under-there system n m up) in
    let other : of.0 ≡ connector → ⊥ = λ is. false≢true (sym apart ∙ ap (λ j. is_of_connector all j m) (sym is) ∙ of.2) in
    ⊎_elim
    (λ wholly. false≢true (sym (c.requires.free.whole of.0 n m own wholly of.2) ∙ rival))
    (λ beside. ⊎_elim
    (λ head. false≢true (sym (c.requires.free.heads n m own head) ∙ rival))
    (λ inside. false≢true (sym (rest.ensures.goes n m here inside rival) ∙ left))
    (or_cases (is_head_of system.ranks m connector) (is_in_rest system.ranks n m) beside))
    (or_cases (has_bit rank.whole of.0) (is_head_of system.ranks m connector || is_in_rest system.ranks n m) (above-by system connector rank c.requires.rank of.0 n m other own of.2 up)))
    (cases_Bool (is_of_connector all connector m))))
