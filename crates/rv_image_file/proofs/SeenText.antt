-- What is read of the text of an image, which has none of the five faults.
use Rattle.std.proofs.Common.{◌≡◌, ℕ, suc, ◌+◌, ◌*◌, ◌%◌, ◌^◌, ◌<◌, ◌≤◌, ◌⊎◌, true, false, List, [], ◌∷◌, ◌++◌, length, take, drop, refl, sym, ap, ◌∙◌, arith, ⊎_elim, inl, inr, length-append}
use Rattle.std.specs.Prelude.{if◌then◌else◌, ◌==◌}
use Rattle.std.proofs.lemmas.Bool.Decides.{nat_tests}
use Rattle.std.proofs.lemmas.List.{drop_at}
use Rattle.std.proofs.Math.Seq.{drop-append-add}
use Rattle.base.specs.declared.place.Place.{Place}
use Rattle.rv_machine.specs.declared.image.Image.{Image}
use Rattle.rv_machine.specs.Memory.{little_endian, bytes_of_number, bytes_of}
use Rattle.rv_machine.specs.Words.{length-bytes_of, drop-bytes_of}
use Rattle.rv_image_file.specs.ImageText.{magic, site_numbers, site_part, most_words, most_sites, ImageText}
use Rattle.rv_image_file.specs.BadText.{number_in, version_in, entry_in, count_in, words_end, sites_in, sites_end, text_end, BadText, HasNoFault}
use Rattle.rv_image_file.specs.declared.faults.BadImage.{BadImage}
use Rattle.rv_image_file.specs.declared.faults.BadImage.TheVariants.{Magic, Version, Short, Long, Entry}

-- the first number of bytes that begin with a number
first_number : (n : ℕ) (numbers : List ℕ) → n < 2 ^ 32 → little_endian (take 4 (bytes_of (n ∷ numbers))) ≡ n
unfolding little_endian bytes_of bytes_of_number
first_number n numbers h = omega arith

-- the three numbers in front
seen_version : (v e n : ℕ) (rest : List ℕ) → v < 2 ^ 32 → number_in (magic ++ bytes_of (v ∷ e ∷ n ∷ rest)) 4 ≡ v
unfolding number_in little_endian bytes_of bytes_of_number
seen_version v e n rest h = omega arith

seen_entry : (v e n : ℕ) (rest : List ℕ) → e < 2 ^ 32 → number_in (magic ++ bytes_of (v ∷ e ∷ n ∷ rest)) 8 ≡ e
unfolding number_in little_endian bytes_of bytes_of_number
seen_entry v e n rest h = omega arith

seen_count : (v e n : ℕ) (rest : List ℕ) → n < 2 ^ 32 → number_in (magic ++ bytes_of (v ∷ e ∷ n ∷ rest)) 12 ≡ n
unfolding number_in little_endian bytes_of bytes_of_number
seen_count v e n rest h = omega arith

-- what stands behind the words
behind_words :
    (v e n : ℕ) (words tail : List ℕ)
    → drop (16 + 4 * length words) (magic ++ bytes_of (v ∷ e ∷ n ∷ (words ++ tail))) ≡ bytes_of tail
unfolding bytes_of bytes_of_number
behind_words v e n words tail =
    drop-append-add (magic ++ bytes_of (v ∷ e ∷ n ∷ [])) (bytes_of (words ++ tail)) (4 * length words)
    ∙ drop-bytes_of (length words) (words ++ tail)
    ∙ ap bytes_of (drop_at words tail (length words) refl)

seen_sites :
    (v e n sites : ℕ) (words tail : List ℕ) → sites < 2 ^ 32
    → number_in (magic ++ bytes_of (v ∷ e ∷ n ∷ (words ++ sites ∷ tail))) (16 + 4 * length words) ≡ sites
unfolding number_in
seen_sites v e n sites words tail h =
    ap (λ l. little_endian (take 4 l)) (behind_words v e n words (sites ∷ tail)) ∙ first_number sites tail h

seen_length :
    (v e n : ℕ) (words tail : List ℕ)
    → length (magic ++ bytes_of (v ∷ e ∷ n ∷ (words ++ tail))) ≡ 16 + 4 * length words + 4 * length tail
seen_length v e n words tail =
    let whole = v ∷ e ∷ n ∷ (words ++ tail) in
    omega (arith, length-append magic (bytes_of whole), length-bytes_of whole, length-append words tail)

pub length-site_numbers : (sites : List Place) → length (site_numbers sites) ≡ 2 * length sites
unfolding site_numbers
length-site_numbers [] = refl
length-site_numbers (s ∷ sites) = let h = length-site_numbers sites in omega arith

-- where a text ends, by its version
pub text_end-with_sites : (bytes : List ℕ) → version_in bytes ≡ 2 → text_end bytes ≡ sites_end bytes
text_end-with_sites bytes h =
    let t : (version_in bytes == 2) ≡ true = grind (arith, nat_tests) in
    ap (λ b. if b then sites_end bytes else words_end bytes) t

pub text_end-without : (bytes : List ℕ) → (version_in bytes ≡ 2 → ⊥) → text_end bytes ≡ words_end bytes
text_end-without bytes h =
    let t : (version_in bytes == 2) ≡ false = grind (arith, nat_tests) in
    ap (λ b. if b then sites_end bytes else words_end bytes) t

-- what is read of bytes that are the text of so many words and sites
record Seen (bytes : List ℕ) (version entry words sites : ℕ) : Type 0 where
  begins : take 4 bytes ≡ magic
  version_is : version_in bytes ≡ version
  entry_is : entry_in bytes ≡ entry
  count_is : count_in bytes ≡ words
  sites_are : version ≡ 2 → sites_in bytes ≡ sites
  short : version ≡ 1 → length bytes ≡ 16 + 4 * words
  long : version ≡ 2 → length bytes ≡ 20 + 4 * words + 8 * sites

seen :
    (bytes : List ℕ) (version : ℕ) (image : Image) (sites : List Place) → ImageText bytes version image sites
    → Seen bytes version image.entry (length image.words) (length sites)
seen bytes version image sites h =
    let words = image.words in
    let count = length words in
    let tail = site_part version sites in
    let bounded = h.in_range.bounded in
    let inside = h.in_range.inside in
    let few = h.in_range.few in
    let e = h.spelled in
    let small : version < 2 ^ 32 = ⊎_elim (λ p. let one : version ≡ 1 = p.0 in omega arith) (λ two. omega (arith, two)) h.version_is in
    let c : count_in bytes ≡ count = ap count_in e ∙ seen_count version image.entry count (words ++ tail) (omega arith) in
    let l : length bytes ≡ 16 + 4 * count + 4 * length tail = ap length e ∙ seen_length version image.entry count words tail in
    record {
      begins = ap (λ b. take 4 b) e;
      version_is = ap version_in e ∙ seen_version version image.entry count (words ++ tail) small;
      entry_is = ap entry_in e ∙ seen_entry version image.entry count (words ++ tail) (omega arith);
      count_is = c;
      sites_are = λ two.
          ap (λ n. number_in bytes (16 + 4 * n)) c
          ∙ ap (λ b. number_in b (16 + 4 * count)) e
          ∙ ap (λ n. number_in (magic ++ bytes_of (version ∷ image.entry ∷ count ∷ (words ++ site_part n sites))) (16 + 4 * count)) two
          ∙ seen_sites version image.entry count (length sites) words (site_numbers sites) (omega arith);
      short = λ one. let none : length tail ≡ 0 = ap (λ n. length (site_part n sites)) one in omega arith;
      long = λ two.
          let some : length tail ≡ suc (length (site_numbers sites)) = ap (λ n. length (site_part n sites)) two in
          omega (arith, length-site_numbers sites);
    }

-- such bytes have no fault, where all is in range
no_fault :
    (bytes : List ℕ) (version entry words sites : ℕ) → Seen bytes version entry words sites → (version ≡ 1) ⊎ (version ≡ 2)
    → entry % 4 ≡ 0 → entry < 4 * words → words ≤ most_words → sites ≤ most_sites → HasNoFault bytes
no_fault bytes version entry words sites s is aligned inside bounded few =
    let v = s.version_is in
    let c = s.count_is in
    let at_least : 16 + 4 * words ≤ length bytes = ⊎_elim (λ one. omega (arith, s.short one)) (λ two. omega (arith, s.long two)) is in
    record {
      begins = s.begins;
      version = λ h.
          ⊎_elim (λ a. omega (arith, a))
          (λ p. ⊎_elim (λ one. p.0 (v ∙ one)) (λ two. p.1 (v ∙ two)) is) h;
      whole = λ h.
          ⊎_elim (λ a. omega (arith, a))
          (λ p. ⊎_elim (λ a. omega (arith, a))
          (λ q.
          let two : version ≡ 2 = sym v ∙ q.0 in
          ⊎_elim (λ a. omega (arith, a, s.long two)) (λ r. omega (arith, r.1, s.long two, s.sites_are two)) q.1) p.1) h;
      ended = λ h.
          ⊎_elim (λ a. omega (arith, a))
          (λ p. ⊎_elim (λ q. let two : version ≡ 2 = sym v ∙ q.0 in omega (arith, q.1, s.sites_are two))
          (λ more.
          ⊎_elim (λ one. omega (arith, more, s.short one, text_end-without bytes (λ two. omega (arith, one, two))))
          (λ two. omega (arith, more, s.long two, s.sites_are two, text_end-with_sites bytes (v ∙ two))) is) p) h;
      entry = λ h. let e = s.entry_is in ⊎_elim (λ a. a (ap (λ n. n % 4) e ∙ aligned)) (λ a. omega (arith, a)) h;
    }

pub whole_text :
    (bytes : List ℕ) (version : ℕ) (image : Image) (sites : List Place) → ImageText bytes version image sites → HasNoFault bytes
whole_text bytes version image sites h =
    no_fault bytes version image.entry (length image.words) (length sites) (seen bytes version image sites h)
    (⊎_elim (λ p. inl p.0) (λ two. inr two) h.version_is) h.in_range.aligned h.in_range.inside h.in_range.bounded h.in_range.few

-- bytes with no fault have none
pub not_bad : (bytes : List ℕ) (reason : BadImage) → HasNoFault bytes → BadText bytes reason → ⊥
not_bad bytes Magic n h = h.1 n.begins
not_bad bytes Version n h = n.version h.1
not_bad bytes Short n h = n.whole h.1
not_bad bytes Long n h = n.ended h.1
not_bad bytes Entry n h = n.entry h.1
