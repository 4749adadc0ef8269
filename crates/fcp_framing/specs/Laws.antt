-- Laws of the spelling of packets (this project's own profile), in both versions.
use Rattle.std.specs.Prelude.{◌≡◌, ◌⊎◌, ℕ, ◌<◌, ◌≤◌, List, [], ◌++◌, length, Some, None, All}
use Rattle.fcp_framing.specs.declared.packet.Up.{Up}
use Rattle.fcp_framing.specs.declared.packet.Down.{Down}
use Rattle.fcp_framing.specs.declared.refusal.FrameRefused.TheVariants.{Trailing}
use Rattle.fcp_framing.specs.Spelling.{IsUp, IsAllocation, FitsUp, FitsDown, up_bytes, down_bytes, SpellsUp, SpellsDown}
use Rattle.fcp_framing.specs.Fields.{up_of, down_of}
use Rattle.fcp_framing.specs.Refusals.{first_refusal, refuses_up, refuses_down}

-- bytes that spell a packet spell no other, of whatever version, network and batch
pub record SpellOnePacket : Type 0 where
  pub up : (n m : ℕ) (bytes : List ℕ) (a b : Up) → SpellsUp n bytes a → SpellsUp m bytes b → a ≡ b
  pub down : (n m s t : ℕ) (bytes : List ℕ) (a b : Down) → SpellsDown n s bytes a → SpellsDown m t bytes b → a ≡ b
  pub either : (n m s : ℕ) (bytes : List ℕ) (a : Up) (b : Down) → SpellsUp n bytes a → SpellsDown m s bytes b → ⊥

-- a packet is spelled in one way, by its bytes
pub record HaveOneSpelling : Type 0 where
  pub up : (n : ℕ) (bytes : List ℕ) (up : Up) → SpellsUp n bytes up → bytes ≡ up_bytes up
  pub down : (n s : ℕ) (bytes : List ℕ) (down : Down) → SpellsDown n s bytes down → bytes ≡ down_bytes down

-- the bytes spell some packet
abbrev pub IsSpelling : List ℕ → Type 0
IsSpelling bytes = ((n : ℕ) × (up : Up) × SpellsUp n bytes up) ⊎ ((n s : ℕ) × (down : Down) × SpellsDown n s bytes down)

-- no packet's bytes begin another's
abbrev pub BeginNoOther : Type 0
BeginNoOther = (bytes more : List ℕ) → IsSpelling bytes → IsSpelling (bytes ++ more) → more ≡ []

-- a packet with bytes behind it is refused for those bytes
pub record RefuseWhatFollows : Type 0 where
  pub up : (n : ℕ) (bytes more : List ℕ) (up : Up) → SpellsUp n bytes up → 0 < length more → first_refusal (refuses_up n (bytes ++ more)) ≡ Some Trailing
  pub down : (n s : ℕ) (bytes more : List ℕ) (down : Down) → SpellsDown n s bytes down → 0 < length more → first_refusal (refuses_down n s (bytes ++ more)) ≡ Some Trailing

-- no test refuses the bytes of a packet that keeps the rules, and that packet stands in them
pub record AreReadBack : Type 0 where
  pub up : (n : ℕ) (up : Up) → IsUp n up → FitsUp up → (first_refusal (refuses_up n (up_bytes up)) ≡ None) × (up_of (up_bytes up) ≡ up)
  pub down : (n s : ℕ) (down : Down) → IsAllocation n s down → FitsDown down → (first_refusal (refuses_down n s (down_bytes down)) ≡ None) × (down_of (down_bytes down) ≡ down)

abbrev pub AreBytes : List ℕ → Type 0
AreBytes bytes = All (λ (byte : ℕ). byte < 256) bytes

-- bytes that no test refuses spell the packet that stands in them
pub record WereSpelledSo : Type 0 where
  pub up : (n : ℕ) (bytes : List ℕ) → n ≤ 256 → AreBytes bytes → first_refusal (refuses_up n bytes) ≡ None → SpellsUp n bytes (up_of bytes)
  pub down : (n s : ℕ) (bytes : List ℕ) → n ≤ 256 → AreBytes bytes → first_refusal (refuses_down n s bytes) ≡ None → SpellsDown n s bytes (down_of bytes)
