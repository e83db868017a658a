-- A body holds an identity exactly where it is the identity's spelling and zeros.
use Rattle.std.proofs.Common.{◌≡◌, ℕ, ◌-◌, true, List, ◌++◌, length, take, drop, Some, refl, ap, ◌∙◌, arith, append_assoc, ◌≤◌, ◌+◌}
use Rattle.std.proofs.lemmas.Bool.Decides.{nat_tests}
use Rattle.std.proofs.lemmas.List.{take_at, length-append}
use Rattle.record_codec.specs.declared.layout.TheConstants.{MAGIC, VERSION, DIGEST}
use Rattle.record_codec.specs.Bytes.{padded, if_spelled, zeros, two_bytes, four_bytes, two_byte_number, four_byte_number}
use Rattle.record_codec.specs.Identity.{IdentityFields, IsIdentity, IsIdentityBodyOf, is_identity, identity_bytes_of, identity_bytes, identity_fields, identity_of, identity_in}
use Rattle.record_codec.proofs.Spelled.{if_spelled-some, if_spelled_is}
use Rattle.record_codec.proofs.Written.{padded_is, padded_to_own}
use Rattle.record_codec.proofs.Numbers.{length-two_bytes, drop-two_bytes, drop-four_bytes, two_byte_number-two_bytes, four_byte_number-four_bytes, length-four_bytes}

is_identity-true : (identity : IdentityFields) → IsIdentity identity → is_identity identity ≡ true
is_identity-true identity h = grind (arith, nat_tests)

IsIdentity-from_test : (identity : IdentityFields) → is_identity identity ≡ true → IsIdentity identity
IsIdentity-from_test identity h = record {
  some_atom = grind (arith, nat_tests);
  atoms_within = grind (arith, nat_tests);
  ring_from = grind (arith, nat_tests);
  ring_within = grind (arith, nat_tests);
  digest_len = grind (arith, nat_tests);
}

-- the fields of a spelling are those of the identity that is spelled
identity_fields-identity_bytes : (version : ℕ) (identity : IdentityFields) (rest : List ℕ) → IsIdentity identity → identity_fields (identity_bytes_of version identity ++ rest) ≡ identity
identity_fields-identity_bytes version identity rest h =
    let from_digest : List ℕ = identity.digest ++ rest in
    let from_ring : List ℕ = four_bytes identity.ring ++ from_digest in
    let from_atoms : List ℕ = two_bytes identity.atoms ++ from_ring in
    let from_version : List ℕ = two_bytes version ++ from_atoms in
    let grouped : identity_bytes_of version identity ++ rest ≡ MAGIC ++ from_version = simp append_assoc in
    let version_left : drop (length MAGIC) (identity_bytes_of version identity ++ rest) ≡ from_version = ap (drop (length MAGIC)) grouped in
    let atoms_left : drop 2 from_version ≡ from_atoms = drop-two_bytes version from_atoms in
    let ring_left : drop 2 from_atoms ≡ from_ring = drop-two_bytes identity.atoms from_ring in
    let digest_left : drop 4 from_ring ≡ from_digest = drop-four_bytes identity.ring from_digest in
    let atoms : two_byte_number from_atoms ≡ identity.atoms = two_byte_number-two_bytes identity.atoms from_ring (omega (arith, h.atoms_within)) in
    let ring : four_byte_number from_ring ≡ identity.ring = four_byte_number-four_bytes identity.ring from_digest (omega (arith, h.ring_within)) in
    let digest : take DIGEST from_digest ≡ identity.digest = take_at identity.digest rest DIGEST h.digest_len in
    rw (version_left, atoms_left, ring_left, digest_left, atoms, ring, digest) refl

pub held_identity_is_spelled : (version : ℕ) (body : List ℕ) (identity : IdentityFields) → identity_of version body ≡ Some identity → IsIdentityBodyOf version body identity
held_identity_is_spelled version body identity e =
    let i = identity_fields body in
    let p = if_spelled-some (is_identity i) i identity (identity_bytes_of version i) body e in
    rw (← p.same) (record { in_range = IsIdentity-from_test i p.in_range; spelled = p.spelled })

pub spelled_identity_is_held : (version : ℕ) (body : List ℕ) (identity : IdentityFields) → IsIdentityBodyOf version body identity → identity_of version body ≡ Some identity
spelled_identity_is_held version body identity h =
    let is : identity_fields body ≡ identity = ap identity_fields (h.spelled ∙ padded_is (length body) (identity_bytes_of version identity)) ∙ identity_fields-identity_bytes version identity (zeros (length body - length (identity_bytes_of version identity))) h.in_range in
    ap (λ (i : IdentityFields). if_spelled (is_identity i) i (identity_bytes_of version i) body) is ∙ if_spelled_is (is_identity identity) identity (identity_bytes_of version identity) body (is_identity-true identity h.in_range) h.spelled

pub length-identity_bytes_of : (version : ℕ) (identity : IdentityFields) → length (identity_bytes_of version identity) ≡ 12 + length identity.digest
length-identity_bytes_of version identity =
    simp length-append (omega (arith, length-two_bytes version, length-two_bytes identity.atoms, length-four_bytes identity.ring))

-- what is written is read again
pub identity_of_reads_back : (version : ℕ) (identity : IdentityFields) (len : ℕ) → 12 + DIGEST ≤ len → IsIdentity identity → identity_of version (padded len (identity_bytes_of version identity)) ≡ Some identity
identity_of_reads_back version identity len fits h =
    spelled_identity_is_held version (padded len (identity_bytes_of version identity)) identity (record { in_range = h; spelled = padded_to_own len (identity_bytes_of version identity) (omega (arith, length-identity_bytes_of version identity, h.digest_len)) })

pub identity_reads_back : (identity : IdentityFields) (len : ℕ) → 12 + DIGEST ≤ len → IsIdentity identity → identity_in (padded len (identity_bytes identity)) ≡ Some identity
unfolding identity_in
identity_reads_back identity len fits h = identity_of_reads_back VERSION identity len fits h
