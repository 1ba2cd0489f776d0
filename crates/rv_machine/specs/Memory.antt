-- The memory: a byte at each address from 0 on (RISC-V Unprivileged ISA, 1.4). Numbers of several bytes
-- lie least byte first, at an address that is a multiple of their size.
use Rattle.std.specs.Prelude.{ℕ, zero, suc, ◌+◌, ◌*◌, ◌/◌, ◌%◌, Bool, ◌&&◌, ◌==◌, nat_le, List, [], ◌∷◌, ◌++◌, length, take, drop, Option, Some, None, if◌then◌else◌}

-- the number whose bytes these are, least first
unfoldable pub little_endian : List ℕ → ℕ
little_endian [] = 0
little_endian (byte ∷ bytes) = byte + 256 * little_endian bytes

-- so many bytes of a number, least first
unfoldable pub bytes_of_number : ℕ → ℕ → List ℕ
bytes_of_number zero number = []
bytes_of_number (suc size) number = number % 256 ∷ bytes_of_number size (number / 256)

-- an access of so many bytes is aligned, and inside the memory
abbrev pub is_access : ℕ → ℕ → List ℕ → Bool
is_access size address memory = (address % size == 0) && nat_le (address + size) (length memory)

-- the number of so many bytes at an address
unfoldable pub number_at : ℕ → ℕ → List ℕ → Option ℕ
number_at size address memory =
    if is_access size address memory then Some (little_endian (take size (drop address memory))) else None

-- the memory with so many bytes of a number stored at an address; none where that is no access
unfoldable pub stored_at : ℕ → ℕ → ℕ → List ℕ → Option (List ℕ)
stored_at size address number memory =
    if is_access size address memory then
    Some (take address memory ++ (bytes_of_number size number ++ drop (address + size) memory))
    else None

-- the bytes of words
unfoldable pub bytes_of : List ℕ → List ℕ
bytes_of [] = []
bytes_of (word ∷ words) = bytes_of_number 4 word ++ bytes_of words
