-- The text of an image file: `ISLI`, and numbers of 32 bits, least byte first.
use Rattle.std.specs.Prelude.{◌≡◌, ◌⊎◌, ℕ, ◌*◌, ◌%◌, ◌^◌, ◌<◌, ◌≤◌, List, [], ◌∷◌, ◌++◌, length, codes, if◌then◌else◌, ◌==◌, All}
use Rattle.base.specs.declared.place.Place.{Place}
use Rattle.rv_machine.specs.declared.image.Image.{Image}
use Rattle.rv_machine.specs.Memory.{bytes_of}

-- the first four bytes
abbrev pub magic : List ℕ
magic = codes "ISLI"

-- the most words and the most sites that a file has
abbrev pub most_words : ℕ
most_words = 16777216

abbrev pub most_sites : ℕ
most_sites = 100000

-- of each site its line and its column
unfoldable pub site_numbers : List Place → List ℕ
site_numbers [] = []
site_numbers (site ∷ sites) = site.line ∷ site.column ∷ site_numbers sites

-- what stands behind the words: in version 2 the number of sites, and the sites
abbrev pub site_part : ℕ → List Place → List ℕ
site_part version sites = if version == 2 then length sites ∷ site_numbers sites else []

-- the version, the entry, the number of words, the words, and what stands behind them
abbrev pub image_numbers : ℕ → Image → List Place → List ℕ
image_numbers version image sites = version ∷ image.entry ∷ length image.words ∷ (image.words ++ site_part version sites)

abbrev pub image_text : ℕ → Image → List Place → List ℕ
image_text version image sites = magic ++ bytes_of (image_numbers version image sites)

-- the two versions, of which the first has no sites
abbrev pub IsVersion : ℕ → List Place → Type 0
IsVersion version sites = ((version ≡ 1) × (sites ≡ [])) ⊎ (version ≡ 2)

-- a number of 32 bits
abbrev pub IsNumber : ℕ → Type 0
IsNumber n = n < 2 ^ 32

abbrev pub IsSite : Place → Type 0
IsSite site = IsNumber site.line × IsNumber site.column

-- The image and its sites are in range: the entry among the words, words and sites not too many, and all numbers of 32 bits.
pub record IsInRange (image : Image) (sites : List Place) : Type 0 where
  pub aligned : image.entry % 4 ≡ 0
  pub inside : image.entry < 4 * length image.words
  pub bounded : length image.words ≤ most_words
  pub few : length sites ≤ most_sites
  pub words_fit : All IsNumber image.words
  pub sites_fit : All IsSite sites

-- **The bytes are the text of the image and its sites in that version.**
pub record ImageText (bytes : List ℕ) (version : ℕ) (image : Image) (sites : List Place) : Type 0 where
  pub spelled : bytes ≡ image_text version image sites
  pub version_is : IsVersion version sites
  pub in_range : IsInRange image sites
