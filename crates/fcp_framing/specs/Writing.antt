-- Bytes written into a buffer.
use Rattle.std.specs.Prelude.{ℕ, ◌+◌, List, ◌++◌, length, take, drop}

-- the buffer once these bytes stand in it from a place on
unfoldable pub with_bytes : ℕ → List ℕ → List ℕ → List ℕ
with_bytes at bytes buf = take at buf ++ (bytes ++ drop (at + length bytes) buf)
