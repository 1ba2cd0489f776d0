-- Bytes that are no image file, and why: the first of five reasons that holds.
use Rattle.std.specs.Prelude.{◌≡◌, ◌≢◌, ◌⊎◌, ℕ, ◌+◌, ◌*◌, ◌%◌, ◌<◌, ◌≤◌, List, length, take, drop, if◌then◌else◌, ◌==◌}
use Rattle.rv_machine.specs.Memory.{little_endian}
use Rattle.rv_image_file.specs.ImageText.{magic, most_words, most_sites}
use Rattle.rv_image_file.specs.declared.faults.BadImage.{BadImage}
use Rattle.rv_image_file.specs.declared.faults.BadImage.TheVariants.{Magic, Version, Short, Long, Entry}

-- the number whose first byte stands behind so many bytes
unfoldable pub number_in : List ℕ → ℕ → ℕ
number_in bytes from = little_endian (take 4 (drop from bytes))

abbrev pub version_in : List ℕ → ℕ
version_in bytes = number_in bytes 4

abbrev pub entry_in : List ℕ → ℕ
entry_in bytes = number_in bytes 8

-- the number of words, and where they end
abbrev pub count_in : List ℕ → ℕ
count_in bytes = number_in bytes 12

abbrev pub words_end : List ℕ → ℕ
words_end bytes = 16 + 4 * count_in bytes

-- the number of sites, and where they end
abbrev pub sites_in : List ℕ → ℕ
sites_in bytes = number_in bytes (words_end bytes)

abbrev pub sites_end : List ℕ → ℕ
sites_end bytes = words_end bytes + 4 + 8 * sites_in bytes

-- where the text ends
abbrev pub text_end : List ℕ → ℕ
text_end bytes = if version_in bytes == 2 then sites_end bytes else words_end bytes

-- the first four bytes are missing or differ
abbrev pub HasBadMagic : List ℕ → Type 0
HasBadMagic bytes = take 4 bytes ≢ magic

-- bytes 4 to 7 are missing, or neither 1 nor 2
abbrev pub HasBadVersion : List ℕ → Type 0
HasBadVersion bytes = (length bytes < 8) ⊎ ((version_in bytes ≢ 1) × (version_in bytes ≢ 2))

-- the number of sites is missing, or there are few enough of them and fewer bytes than they need
abbrev pub LacksSites : List ℕ → Type 0
LacksSites bytes =
    (length bytes < words_end bytes + 4) ⊎ ((sites_in bytes ≤ most_sites) × (length bytes < sites_end bytes))

-- there are fewer bytes than the words need, or in version 2 than the sites need
abbrev pub LacksWords : List ℕ → Type 0
LacksWords bytes = (length bytes < words_end bytes) ⊎ ((version_in bytes ≡ 2) × LacksSites bytes)

-- fewer than 16 bytes, or few enough words and fewer bytes than these and the sites need
abbrev pub IsShort : List ℕ → Type 0
IsShort bytes = (length bytes < 16) ⊎ ((count_in bytes ≤ most_words) × LacksWords bytes)

-- in version 2, too many sites
abbrev pub HasManySites : List ℕ → Type 0
HasManySites bytes = (version_in bytes ≡ 2) × (most_sites < sites_in bytes)

-- too many words, or in version 2 too many sites, or more bytes
abbrev pub IsLong : List ℕ → Type 0
IsLong bytes =
    (most_words < count_in bytes) ⊎ (HasManySites bytes ⊎ (text_end bytes < length bytes))

-- the entry is not a multiple of 4, or not in the words
abbrev pub HasBadEntry : List ℕ → Type 0
HasBadEntry bytes = (entry_in bytes % 4 ≢ 0) ⊎ (4 * count_in bytes ≤ entry_in bytes)

-- the row of a reason
abbrev pub Row : List ℕ → BadImage → Type 0
Row bytes Magic = HasBadMagic bytes
Row bytes Version = HasBadVersion bytes
Row bytes Short = IsShort bytes
Row bytes Long = IsLong bytes
Row bytes Entry = HasBadEntry bytes

-- no row before that of the reason holds
abbrev pub NoneBefore : List ℕ → BadImage → Type 0
NoneBefore bytes Magic = Unit {0}
NoneBefore bytes Version = ¬ HasBadMagic bytes
NoneBefore bytes Short = ¬ HasBadMagic bytes × ¬ HasBadVersion bytes
NoneBefore bytes Long = ¬ HasBadMagic bytes × ¬ HasBadVersion bytes × ¬ IsShort bytes
NoneBefore bytes Entry = ¬ HasBadMagic bytes × ¬ HasBadVersion bytes × ¬ IsShort bytes × ¬ IsLong bytes

-- **The bytes are no image file for that reason**, the first of the five that holds.
abbrev pub BadText : List ℕ → BadImage → Type 0
BadText bytes reason = NoneBefore bytes reason × Row bytes reason

-- none of the five holds
pub record HasNoFault (bytes : List ℕ) : Type 0 where
  pub begins : take 4 bytes ≡ magic
  pub version : ¬ HasBadVersion bytes
  pub whole : ¬ IsShort bytes
  pub ended : ¬ IsLong bytes
  pub entry : ¬ HasBadEntry bytes
