-- A body of the first layout and today's body of it hold the same.
use Rattle.std.proofs.Common.{◌≡◌, Bool, true, false, if◌then◌else◌, nat_lt, slice_index, slice_set, subst, lit<, ℕ, ◌+◌, ◌-◌, ◌^◌, ◌<◌, ◌≤◌, List, ◌++◌, length, take, drop, Option, Some, None, inl, inr, refl, sym, ap, ◌∙◌, arith, append_assoc}
use Rattle.std.specs.Option.{option_map}
use Rattle.std.specs.Str.{bytes_eq}
use Rattle.std.proofs.lemmas.Bool.{cases_lt}
use Rattle.std.proofs.lemmas.Bool.Decides.{nat_tests}
use Rattle.std.proofs.lemmas.List.{length-append, take_at, take-append-le, drop-append-le, take-append-drop, replicate-append-replicate, length-drop, drop-drop, get_or-set_same, get_or_append_left, length-set}
use Rattle.std.proofs.lemmas.List.Elements.{All-append, All-replicate, All-drop}
use Rattle.std.proofs.lemmas.Slice.Eq.{bytes_eq-Decides}
use Rattle.record_codec.specs.declared.layout.TheConstants.{BODY, MAGIC, VERSION, MOST_ENTRIES, ENTRY_COUNT_AT}
use Rattle.record_codec.specs.declared.v1.TheConstants.{BODY as FIRST_BODY, VERSION as FIRST_VERSION, MOST_ENTRIES as FIRST_MOST_ENTRIES}
use Rattle.record_codec.specs.Bytes.{AreBytes, two_bytes, four_bytes, eight_bytes, one_byte, two_byte_number, zeros, padded}
use Rattle.record_codec.specs.Base.{base_bytes, base_in}
use Rattle.record_codec.specs.Saved.{saved_bytes, saved_in}
use Rattle.record_codec.specs.Identity.{IdentityFields, identity_bytes_of, identity_of, identity_in, version_in}
use Rattle.record_codec.specs.Fired.{FiredFields, fired_bytes, fired_fields, is_fired_up_to, fired_up_to, fired_in}
use Rattle.record_codec.specs.FirstLayout.{todays_body, todays_version, with_version_changed, todays_identity, todays_record}
use Rattle.record_codec.proofs.Fitting.{IsByte, two_byte_number_below, two_bytes-two_byte_number}
use Rattle.record_codec.proofs.Written.{length-padded, padded_is}
use Rattle.record_codec.proofs.Numbers.{drop-two_bytes, length-two_bytes, length-eight_bytes, two_byte_number-two_bytes}
use Rattle.record_codec.proofs.Bases.{held_base_is_spelled, spelled_base_is_held}
use Rattle.record_codec.proofs.SavedStates.{held_saved_is_spelled, spelled_saved_is_held, length-saved_bytes}
use Rattle.record_codec.proofs.Identities.{held_identity_is_spelled, spelled_identity_is_held, length-identity_bytes_of}
use Rattle.record_codec.proofs.Records.{held_fired_is_spelled, spelled_fired_is_held, length-fired_bytes, IsFired-from_test, IsFiredUpTo-most}
use Rattle.record_codec.proofs.Spelled.{if_spelled-some}

-- ---- zeros after a body

-- what is padded twice is padded to the longer of the two lengths
padded-padded : (len more : ℕ) (bytes : List ℕ) → length bytes ≤ len → len ≤ more → padded more (padded len bytes) ≡ padded more bytes
unfolding padded zeros
padded-padded len more bytes fits longer =
    let size : length (padded len bytes) ≡ len = length-padded len bytes fits in
    append_assoc bytes (zeros (len - length bytes)) (zeros (more - length (padded len bytes)))
    ∙ ap (λ (after : List ℕ). bytes ++ after) (replicate-append-replicate (len - length bytes) (more - length (padded len bytes)) 0 ∙ ap zeros (omega (arith, size)))

take-padded : (len : ℕ) (body : List ℕ) → take (length body) (padded len body) ≡ body
take-padded len body = ap (take (length body)) (padded_is len body) ∙ take_at body (zeros (len - length body)) (length body) refl

-- With zeros after it a body is a spelling and zeros, exactly where it is so itself.
pub spelled_with_zeros : (len : ℕ) (body bytes : List ℕ) → length bytes ≤ length body → length body ≤ len → body ≡ padded (length body) bytes → padded len body ≡ padded (length (padded len body)) bytes
spelled_with_zeros len body bytes fits within spelled =
    ap (padded len) spelled ∙ padded-padded (length body) len bytes fits within ∙ ap (λ (n : ℕ). padded n bytes) (sym (length-padded len body within))

pub spelled_without_zeros : (len : ℕ) (body bytes : List ℕ) → length bytes ≤ length body → length body ≤ len → padded len body ≡ padded (length (padded len body)) bytes → body ≡ padded (length body) bytes
spelled_without_zeros len body bytes fits within spelled =
    let size : length (padded (length body) bytes) ≡ length body = length-padded (length body) bytes fits in
    let same : padded len body ≡ padded len (padded (length body) bytes) =
    spelled ∙ ap (λ (n : ℕ). padded n bytes) (length-padded len body within) ∙ sym (padded-padded (length body) len bytes fits within) in
    sym (take-padded len body)
    ∙ ap (take (length body)) same
    ∙ ap (λ (n : ℕ). take n (padded len (padded (length body) bytes))) (sym size)
    ∙ take-padded len (padded (length body) bytes)

AreBytes-padded : (len : ℕ) (body : List ℕ) → AreBytes body → AreBytes (padded len body)
unfolding padded zeros
AreBytes-padded len body bytes = All-append IsByte body (zeros (len - length body)) bytes (All-replicate IsByte (len - length body) 0 (omega arith))

-- two options are the same where each value that one holds is held by the other
same_option : {V : Type 0} (x y : Option V) → ((v : V) → x ≡ Some v → y ≡ Some v) → ((v : V) → y ≡ Some v → x ≡ Some v) → x ≡ y
same_option (Some v) y to from = sym (to v refl)
same_option None (Some v) to from = from v refl
same_option None None to from = refl

-- ---- bases and saved states

pub base_in-todays_body : (body : List ℕ) → length body ≡ FIRST_BODY → base_in (todays_body body) ≡ base_in body
unfolding todays_body
base_in-todays_body body size =
    same_option (base_in (padded BODY body)) (base_in body)
    (λ number e.
    let h = held_base_is_spelled (padded BODY body) number e in
    let fits : length (base_bytes number) ≤ length body = omega (arith, length-eight_bytes number) in
    spelled_base_is_held body number (record { in_range = h.in_range; spelled = spelled_without_zeros BODY body (base_bytes number) fits (omega arith) h.spelled }))
    (λ number e.
    let h = held_base_is_spelled body number e in
    let fits : length (base_bytes number) ≤ length body = omega (arith, length-eight_bytes number) in
    spelled_base_is_held (padded BODY body) number (record { in_range = h.in_range; spelled = spelled_with_zeros BODY body (base_bytes number) fits (omega arith) h.spelled }))

pub saved_in-todays_body : (body : List ℕ) → AreBytes body → length body ≡ FIRST_BODY → saved_in (todays_body body) ≡ saved_in body
unfolding todays_body
saved_in-todays_body body bytes size =
    same_option (saved_in (padded BODY body)) (saved_in body)
    (λ saved e.
    let h = held_saved_is_spelled (padded BODY body) saved (AreBytes-padded BODY body bytes) e in
    let fits : length (saved_bytes saved) ≤ length body = omega (arith, length-saved_bytes saved, h.in_range.values_within) in
    spelled_saved_is_held body saved (record { in_range = h.in_range; fits = h.fits; spelled = spelled_without_zeros BODY body (saved_bytes saved) fits (omega arith) h.spelled }))
    (λ saved e.
    let h = held_saved_is_spelled body saved bytes e in
    let fits : length (saved_bytes saved) ≤ length body = omega (arith, length-saved_bytes saved, h.in_range.values_within) in
    spelled_saved_is_held (padded BODY body) saved (record { in_range = h.in_range; fits = h.fits; spelled = spelled_with_zeros BODY body (saved_bytes saved) fits (omega arith) h.spelled }))

-- ---- identities

-- the version of a body, and of one that follows it with zeros
version_in-padded : (len : ℕ) (body : List ℕ) → 6 ≤ length body → version_in (padded len body) ≡ version_in body
unfolding version_in two_byte_number
version_in-padded len body long =
    let after : List ℕ = zeros (len - length body) in
    let magic : take 4 (body ++ after) ≡ take 4 body = take-append-le 4 body after (omega arith) in
    let version : take 2 (drop 4 (body ++ after)) ≡ take 2 (drop 4 body) =
    ap (take 2) (drop-append-le 4 body after (omega arith)) ∙ take-append-le 2 (drop 4 body) after (omega (arith, length-drop 4 body)) in
    rw (padded_is len body, magic, version) refl

-- the version of what is spelled so
version_in-spelled : (version : ℕ) (rest : List ℕ) → version < 2 ^ 16 → version_in (MAGIC ++ two_bytes version ++ rest) ≡ Some version
unfolding version_in
version_in-spelled version rest fits = ap (λ (n : ℕ). Some n) (two_byte_number-two_bytes version rest fits)

-- a value that is given where a test holds
given_if : {V : Type 0} (t : Bool) (value given : V) → (if t then Some value else None) ≡ Some given → (t ≡ true) × (value ≡ given)
given_if true value given e = (refl, cc)
given_if false value given e = absurd cc

-- a body that tells a version begins with the magic bytes and that version
record BeginsAs (version : ℕ) (body : List ℕ) : Type 0 where
  pub fits : version < 2 ^ 16
  pub begins : body ≡ MAGIC ++ two_bytes version ++ drop 6 body

version_in-some : (body : List ℕ) (version : ℕ) → AreBytes body → 6 ≤ length body → version_in body ≡ Some version → BeginsAs version body
unfolding version_in
version_in-some body version bytes long e =
    let said = given_if (bytes_eq MAGIC (take 4 body)) (two_byte_number (drop 4 body)) version e in
    let magic : MAGIC ≡ take 4 body = (bytes_eq-Decides MAGIC (take 4 body)).0 said.0 in
    let from_version : AreBytes (drop 4 body) = All-drop IsByte 4 body bytes in
    let spelled : two_bytes version ≡ take 2 (drop 4 body) = ap two_bytes (sym said.1) ∙ two_bytes-two_byte_number (drop 4 body) from_version (omega (arith, length-drop 4 body)) in
    record {
      fits = subst (λ (n : ℕ). n < 2 ^ 16) said.1 (two_byte_number_below (drop 4 body) from_version);
      begins =
          sym (take-append-drop 4 body)
          ∙ ap (λ (front : List ℕ). front ++ drop 4 body) (sym magic)
          ∙ ap (λ (rest : List ℕ). MAGIC ++ rest) (sym (take-append-drop 2 (drop 4 body)) ∙ ap (λ (front : List ℕ). front ++ drop 2 (drop 4 body)) (sym spelled) ∙ ap (λ (rest : List ℕ). two_bytes version ++ rest) (drop-drop 2 4 body));
    }

-- the version changed
todays_version-fits : (version : ℕ) → version < 2 ^ 16 → todays_version version < 2 ^ 16
todays_version-fits version fits = grind (arith, nat_tests)

first_of_todays : (version : ℕ) → todays_version version ≡ VERSION → version ≡ FIRST_VERSION
first_of_todays version e = grind (arith, nat_tests)

-- today's body of one that tells a version, and of one that does not
todays_identity-of_version : (body : List ℕ) (said : Option ℕ) → version_in body ≡ said → todays_identity body ≡ padded BODY (with_version_changed said body)
unfolding todays_identity todays_body
todays_identity-of_version body said e = ap (λ (t : Option ℕ). padded BODY (with_version_changed t body)) e

length-with_version : (version : ℕ) (body : List ℕ) → 6 ≤ length body → length (MAGIC ++ two_bytes version ++ drop 6 body) ≡ length body
length-with_version version body long = omega (arith, length-append (two_bytes version) (drop 6 body), length-two_bytes version, length-drop 6 body)

version_exchanged : (body : List ℕ) (said : Option ℕ) → AreBytes body → length body ≡ FIRST_BODY → version_in body ≡ said → version_in (todays_identity body) ≡ option_map todays_version said
version_exchanged body None bytes size e = ap version_in (todays_identity-of_version body None e) ∙ version_in-padded BODY body (omega arith) ∙ e
version_exchanged body (Some version) bytes size e =
    let h = version_in-some body version bytes (omega arith) e in
    ap version_in (todays_identity-of_version body (Some version) e)
    ∙ version_in-padded BODY (MAGIC ++ two_bytes (todays_version version) ++ drop 6 body) (omega (arith, length-with_version (todays_version version) body (omega arith)))
    ∙ version_in-spelled (todays_version version) (drop 6 body) (todays_version-fits version h.fits)

pub version_in-todays_identity : (body : List ℕ) → AreBytes body → length body ≡ FIRST_BODY → version_in (todays_identity body) ≡ option_map todays_version (version_in body)
version_in-todays_identity body bytes size = version_exchanged body (version_in body) bytes size refl

-- what follows the version in an identity's body
abbrev after_version : ℕ → IdentityFields → List ℕ
after_version len identity = two_bytes identity.atoms ++ (four_bytes identity.ring ++ (identity.digest ++ zeros (len - (12 + length identity.digest))))

identity_bytes_of-padded : (len version : ℕ) (identity : IdentityFields) → padded len (identity_bytes_of version identity) ≡ MAGIC ++ two_bytes version ++ after_version len identity
identity_bytes_of-padded len version identity =
    let after : List ℕ = zeros (len - (12 + length identity.digest)) in
    let grouped : identity_bytes_of version identity ++ after ≡ MAGIC ++ two_bytes version ++ after_version len identity = simp append_assoc in
    padded_is len (identity_bytes_of version identity)
    ∙ ap (λ (n : ℕ). identity_bytes_of version identity ++ zeros (len - n)) (length-identity_bytes_of version identity)
    ∙ grouped

-- the same identity under another version
version_changed : (len old new : ℕ) (rest : List ℕ) (identity : IdentityFields) → MAGIC ++ two_bytes old ++ rest ≡ padded len (identity_bytes_of old identity) → MAGIC ++ two_bytes new ++ rest ≡ padded len (identity_bytes_of new identity)
version_changed len old new rest identity e =
    let after : List ℕ = after_version len identity in
    let same : rest ≡ after = sym (drop-two_bytes old rest) ∙ ap (drop 6) (e ∙ identity_bytes_of-padded len old identity) ∙ drop-two_bytes old after in
    ap (λ (left : List ℕ). MAGIC ++ two_bytes new ++ left) same ∙ sym (identity_bytes_of-padded len new identity)

-- a body of the first version, as today's
abbrev of_todays_version : List ℕ → List ℕ
of_todays_version body = MAGIC ++ two_bytes VERSION ++ drop 6 body

record IsOfFirst (body : List ℕ) : Type 0 where
  pub begins : body ≡ MAGIC ++ two_bytes FIRST_VERSION ++ drop 6 body
  pub todays : todays_identity body ≡ padded BODY (of_todays_version body)
  pub size : length (of_todays_version body) ≡ length body

of_first : (body : List ℕ) → AreBytes body → length body ≡ FIRST_BODY → version_in body ≡ Some FIRST_VERSION → IsOfFirst body
of_first body bytes size said =
    let h = version_in-some body FIRST_VERSION bytes (omega arith) said in
    record { begins = h.begins; todays = todays_identity-of_version body (Some FIRST_VERSION) said; size = length-with_version VERSION body (omega arith) }

-- a version that today's body tells as today's is the first
first_if_todays : (said : Option ℕ) → option_map todays_version said ≡ Some VERSION → said ≡ Some FIRST_VERSION
first_if_todays None e = absurd cc
first_if_todays (Some version) e =
    let changed : todays_version version ≡ VERSION = cc in
    ap (λ (n : ℕ). Some n) (first_of_todays version changed)

-- the version of an identity's body
version_in-identity : (len version : ℕ) (identity : IdentityFields) (body : List ℕ) → version < 2 ^ 16 → body ≡ padded len (identity_bytes_of version identity) → version_in body ≡ Some version
version_in-identity len version identity body fits e =
    ap version_in (e ∙ identity_bytes_of-padded len version identity) ∙ version_in-spelled version (after_version len identity) fits

identity_from_todays : (body : List ℕ) (identity : IdentityFields) → AreBytes body → length body ≡ FIRST_BODY → identity_of VERSION (todays_identity body) ≡ Some identity → identity_of FIRST_VERSION body ≡ Some identity
identity_from_todays body identity bytes size e =
    let today : List ℕ = of_todays_version body in
    let h = held_identity_is_spelled VERSION (todays_identity body) identity e in
    let tells : version_in (todays_identity body) ≡ Some VERSION = version_in-identity (length (todays_identity body)) VERSION identity (todays_identity body) (lit< tt) h.spelled in
    let first = of_first body bytes size (first_if_todays (version_in body) (sym (version_in-todays_identity body bytes size) ∙ tells)) in
    let fits : length (identity_bytes_of VERSION identity) ≤ length today = omega (arith, length-identity_bytes_of VERSION identity, h.in_range.digest_len, first.size) in
    let within : length today ≤ BODY = omega (arith, first.size) in
    let spelled : padded BODY today ≡ padded (length (padded BODY today)) (identity_bytes_of VERSION identity) = subst (λ (b : List ℕ). b ≡ padded (length b) (identity_bytes_of VERSION identity)) first.todays h.spelled in
    let alone : today ≡ padded (length today) (identity_bytes_of VERSION identity) = spelled_without_zeros BODY today (identity_bytes_of VERSION identity) fits within spelled in
    spelled_identity_is_held FIRST_VERSION body identity (record {
      in_range = h.in_range;
      spelled = first.begins ∙ version_changed (length today) VERSION FIRST_VERSION (drop 6 body) identity alone ∙ ap (λ (n : ℕ). padded n (identity_bytes_of FIRST_VERSION identity)) first.size;
    })

identity_to_todays : (body : List ℕ) (identity : IdentityFields) → AreBytes body → length body ≡ FIRST_BODY → identity_of FIRST_VERSION body ≡ Some identity → identity_of VERSION (todays_identity body) ≡ Some identity
identity_to_todays body identity bytes size e =
    let today : List ℕ = of_todays_version body in
    let h = held_identity_is_spelled FIRST_VERSION body identity e in
    let first = of_first body bytes size (version_in-identity (length body) FIRST_VERSION identity body (lit< tt) h.spelled) in
    let fits : length (identity_bytes_of VERSION identity) ≤ length today = omega (arith, length-identity_bytes_of VERSION identity, h.in_range.digest_len, first.size) in
    let within : length today ≤ BODY = omega (arith, first.size) in
    let alone : today ≡ padded (length today) (identity_bytes_of VERSION identity) =
    version_changed (length body) FIRST_VERSION VERSION (drop 6 body) identity (sym first.begins ∙ h.spelled) ∙ ap (λ (n : ℕ). padded n (identity_bytes_of VERSION identity)) (sym first.size) in
    let spelled : padded BODY today ≡ padded (length (padded BODY today)) (identity_bytes_of VERSION identity) = spelled_with_zeros BODY today (identity_bytes_of VERSION identity) fits within alone in
    spelled_identity_is_held VERSION (todays_identity body) identity (record {
      in_range = h.in_range;
      spelled = subst (λ (b : List ℕ). b ≡ padded (length b) (identity_bytes_of VERSION identity)) (sym first.todays) spelled;
    })

pub identity_in-todays_identity : (body : List ℕ) → AreBytes body → length body ≡ FIRST_BODY → identity_in (todays_identity body) ≡ identity_of FIRST_VERSION body
unfolding identity_in
identity_in-todays_identity body bytes size =
    same_option (identity_in (todays_identity body)) (identity_of FIRST_VERSION body) (λ identity e. identity_from_todays body identity bytes size e) (λ identity e. identity_to_todays body identity bytes size e)

-- ---- records

-- the byte that says how many entries a record has says it
entry_count-spelled : (fired : FiredFields) (body : List ℕ) → body ≡ padded (length body) (fired_bytes fired) → slice_index body ENTRY_COUNT_AT ≡ length fired.entries
unfolding padded eight_bytes two_bytes one_byte
entry_count-spelled fired body e = ap (λ (b : List ℕ). slice_index b ENTRY_COUNT_AT) e

entry_count-padded : (len : ℕ) (body : List ℕ) → 11 ≤ length body → slice_index (padded len body) ENTRY_COUNT_AT ≡ slice_index body ENTRY_COUNT_AT
entry_count-padded len body long =
    ap (λ (b : List ℕ). slice_index b ENTRY_COUNT_AT) (padded_is len body) ∙ get_or_append_left body (zeros (len - length body)) 0 ENTRY_COUNT_AT (omega arith)

-- a body that holds a record says how many entries it has, and has one at least
record SaysEntries (most : ℕ) (body : List ℕ) (fired : FiredFields) : Type 0 where
  pub says : slice_index body ENTRY_COUNT_AT ≡ length fired.entries
  pub some_entry : 1 ≤ length fired.entries
  pub few : length fired.entries ≤ most

says_entries : (most : ℕ) (body : List ℕ) (fired : FiredFields) → fired_up_to most body ≡ Some fired → SaysEntries most body fired
says_entries most body fired e =
    let f = fired_fields body in
    let p = if_spelled-some (is_fired_up_to most f) f fired (fired_bytes f) body e in
    let range = IsFired-from_test most f p.in_range in
    rw (← p.same) (record { says = entry_count-spelled f body p.spelled; some_entry = range.some_entry; few = range.entries_within })

record_from_todays : (body : List ℕ) (fired : FiredFields) → AreBytes body → length body ≡ FIRST_BODY → slice_index body ENTRY_COUNT_AT ≤ FIRST_MOST_ENTRIES → fired_up_to MOST_ENTRIES (padded BODY body) ≡ Some fired → fired_up_to FIRST_MOST_ENTRIES body ≡ Some fired
record_from_todays body fired bytes size few e =
    let h = held_fired_is_spelled MOST_ENTRIES (padded BODY body) fired (AreBytes-padded BODY body bytes) e in
    let says = entry_count-spelled fired (padded BODY body) h.spelled in
    let entries : length fired.entries ≤ FIRST_MOST_ENTRIES = omega (arith, says, entry_count-padded BODY body (omega arith)) in
    let fits : length (fired_bytes fired) ≤ length body = omega (arith, length-fired_bytes fired h.fits, entries) in
    spelled_fired_is_held FIRST_MOST_ENTRIES body fired (record {
      in_range = IsFiredUpTo-most FIRST_MOST_ENTRIES MOST_ENTRIES fired entries h.in_range;
      fits = h.fits;
      spelled = spelled_without_zeros BODY body (fired_bytes fired) fits (omega arith) h.spelled;
    })

record_to_todays : (body : List ℕ) (fired : FiredFields) → AreBytes body → length body ≡ FIRST_BODY → fired_up_to FIRST_MOST_ENTRIES body ≡ Some fired → fired_up_to MOST_ENTRIES (padded BODY body) ≡ Some fired
record_to_todays body fired bytes size e =
    let h = held_fired_is_spelled FIRST_MOST_ENTRIES body fired bytes e in
    let entries : length fired.entries ≤ FIRST_MOST_ENTRIES = h.in_range.entries_within in
    let fits : length (fired_bytes fired) ≤ length body = omega (arith, length-fired_bytes fired h.fits, entries) in
    spelled_fired_is_held MOST_ENTRIES (padded BODY body) fired (record {
      in_range = IsFiredUpTo-most MOST_ENTRIES FIRST_MOST_ENTRIES fired (omega arith) h.in_range;
      fits = h.fits;
      spelled = spelled_with_zeros BODY body (fired_bytes fired) fits (omega arith) h.spelled;
    })

nat_lt-true : (m n : ℕ) → m < n → nat_lt m n ≡ true
nat_lt-true m n lt = grind (arith, nat_tests)

nat_lt-false : (m n : ℕ) → n ≤ m → nat_lt m n ≡ false
nat_lt-false m n le = grind (arith, nat_tests)

-- today's body of a record, by its number of entries
abbrev without_entries : List ℕ → List ℕ
without_entries body = slice_set body ENTRY_COUNT_AT 0

todays_record-by : (body : List ℕ) (past : Bool) → nat_lt FIRST_MOST_ENTRIES (slice_index body ENTRY_COUNT_AT) ≡ past → todays_record body ≡ padded BODY (if past then without_entries body else body)
unfolding todays_record todays_body
todays_record-by body past e = ap (λ (t : Bool). padded BODY (if t then without_entries body else body)) e

without_entries_says_none : (body : List ℕ) → length body ≡ FIRST_BODY → slice_index (padded BODY (without_entries body)) ENTRY_COUNT_AT ≡ 0
without_entries_says_none body size =
    entry_count-padded BODY (without_entries body) (omega (arith, length-set body ENTRY_COUNT_AT 0)) ∙ get_or-set_same body ENTRY_COUNT_AT 0 0 (omega arith)

record_past : (body : List ℕ) → length body ≡ FIRST_BODY → FIRST_MOST_ENTRIES < slice_index body ENTRY_COUNT_AT → fired_up_to MOST_ENTRIES (padded BODY (without_entries body)) ≡ fired_up_to FIRST_MOST_ENTRIES body
record_past body size past =
    same_option (fired_up_to MOST_ENTRIES (padded BODY (without_entries body))) (fired_up_to FIRST_MOST_ENTRIES body)
    (λ fired e. let says = says_entries MOST_ENTRIES (padded BODY (without_entries body)) fired e in absurd (omega (arith, says.says, says.some_entry, without_entries_says_none body size)))
    (λ fired e. let says = says_entries FIRST_MOST_ENTRIES body fired e in absurd (omega (arith, says.says, says.few)))

pub fired_in-todays_record : (body : List ℕ) → AreBytes body → length body ≡ FIRST_BODY → fired_in (todays_record body) ≡ fired_up_to FIRST_MOST_ENTRIES body
unfolding fired_in
fired_in-todays_record body bytes size =
    elim (cases_lt FIRST_MOST_ENTRIES (slice_index body ENTRY_COUNT_AT)) [
      | inl past ↦
          let test : nat_lt FIRST_MOST_ENTRIES (slice_index body ENTRY_COUNT_AT) ≡ true = nat_lt-true FIRST_MOST_ENTRIES (slice_index body ENTRY_COUNT_AT) past in
          ap (fired_up_to MOST_ENTRIES) (todays_record-by body true test) ∙ record_past body size past
      | inr few ↦
          let test : nat_lt FIRST_MOST_ENTRIES (slice_index body ENTRY_COUNT_AT) ≡ false = nat_lt-false FIRST_MOST_ENTRIES (slice_index body ENTRY_COUNT_AT) few in
          ap (fired_up_to MOST_ENTRIES) (todays_record-by body false test)
          ∙ same_option (fired_up_to MOST_ENTRIES (padded BODY body)) (fired_up_to FIRST_MOST_ENTRIES body) (λ fired e. record_from_todays body fired bytes size few e) (λ fired e. record_to_todays body fired bytes size e)
    ]
