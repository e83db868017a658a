-- The body of the identity cell.
use Rattle.std.specs.Prelude.{◌≡◌, ◌==◌, ℕ, nat_eq, ◌≤◌, nat_le, Bool, ◌&&◌, List, ◌++◌, length, take, drop, if◌then◌else◌, Option, Some, None}
use Rattle.std.specs.List.{starts_with}
use Rattle.record_codec.specs.declared.layout.TheConstants.{MAGIC, VERSION, MOST_ATOMS, LEAST_RING, MOST_RING, DIGEST}
use Rattle.record_codec.specs.Bytes.{two_bytes, four_bytes, two_byte_number, four_byte_number, padded, if_spelled}

-- what an identity says of the device: how many atoms, how long the ring is, and which plant text
pub record IdentityFields : Type 0 where
  pub atoms : ℕ
  pub ring : ℕ
  pub digest : List ℕ

-- the ranges of an identity
pub record IsIdentity (identity : IdentityFields) : Type 0 where
  pub some_atom : 1 ≤ identity.atoms
  pub atoms_within : identity.atoms ≤ MOST_ATOMS
  pub ring_from : LEAST_RING ≤ identity.ring
  pub ring_within : identity.ring ≤ MOST_RING
  pub digest_len : length identity.digest ≡ DIGEST

-- the same as a test
abbrev pub is_identity : IdentityFields → Bool
is_identity identity = nat_le 1 identity.atoms && nat_le identity.atoms MOST_ATOMS && nat_le LEAST_RING identity.ring && nat_le identity.ring MOST_RING && length identity.digest == DIGEST

-- how an identity is spelled
-- in a layout of this version
abbrev pub identity_bytes_of : ℕ → IdentityFields → List ℕ
identity_bytes_of version identity = MAGIC ++ two_bytes version ++ two_bytes identity.atoms ++ four_bytes identity.ring ++ identity.digest

-- and in this one
abbrev pub identity_bytes : IdentityFields → List ℕ
identity_bytes identity = identity_bytes_of VERSION identity

-- the body is the spelling of this identity, and zeros
pub record IsIdentityBodyOf (version : ℕ) (body : List ℕ) (identity : IdentityFields) : Type 0 where
  pub in_range : IsIdentity identity
  pub spelled : body ≡ padded (length body) (identity_bytes_of version identity)

abbrev pub IsIdentityBody : List ℕ → IdentityFields → Type 0
IsIdentityBody body identity = IsIdentityBodyOf VERSION body identity

-- what the fields after the magic bytes and the version say
abbrev pub identity_fields : List ℕ → IdentityFields
identity_fields body =
    let from_version = drop (length MAGIC) body in
    let from_atoms = drop 2 from_version in
    let from_ring = drop 2 from_atoms in
    record { atoms = two_byte_number from_atoms; ring = four_byte_number from_ring; digest = take DIGEST (drop 4 from_ring) }

-- the identity that a body holds
abbrev pub identity_of : ℕ → List ℕ → Option IdentityFields
identity_of version body = let identity = identity_fields body in if_spelled (is_identity identity) identity (identity_bytes_of version identity) body

unfoldable pub identity_in : List ℕ → Option IdentityFields
identity_in body = identity_of VERSION body

-- the version of the layout that a device is formatted with: what stands after the magic bytes, if these are there
unfoldable pub version_in : List ℕ → Option ℕ
version_in body = if starts_with nat_eq body MAGIC then Some (two_byte_number (drop (length MAGIC) body)) else None
