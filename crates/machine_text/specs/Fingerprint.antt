-- The fingerprint of bytes.
use Rattle.std.specs.Prelude.{ℕ, List}
use Rattle.sha2.specs.Sha256.{sha256}
use Rattle.hex.specs.Hex.{encode_lower}

-- SHA-256 in 64 digits
abbrev pub fingerprint : List ℕ → List ℕ
fingerprint bytes = encode_lower (sha256 bytes)
