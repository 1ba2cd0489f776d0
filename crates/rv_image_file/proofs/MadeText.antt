-- What is written and what is made of bytes with no fault are texts of images.
use Rattle.std.proofs.Common.{◌≡◌, ℕ, ◌+◌, ◌-◌, ◌*◌, ◌%◌, ◌<◌, ◌≤◌, ◌⊎◌, List, [], ◌∷◌, ◌++◌, length, take, drop, refl, sym, ap, ◌∙◌, arith, ⊎_elim, inl, inr, append_assoc}
use Rattle.std.specs.Prelude.{All}
use Rattle.std.proofs.lemmas.Bool.{cases_eq}
use Rattle.std.proofs.lemmas.List.{take-append-drop, drop-drop, length-drop, length-take-le, take_rest, drop_all}
use Rattle.std.proofs.lemmas.List.Elements.{All-nil, All-same}
use Rattle.base.specs.declared.place.Place.{Place}
use Rattle.rv_machine.specs.declared.image.Image.{Image}
use Rattle.rv_machine.specs.Memory.{bytes_of_number, bytes_of}
use Rattle.rv_machine.specs.Words.{length-bytes_of, bytes_of-append}
use Rattle.rv_image_file.specs.ImageText.{magic, site_numbers, site_part, most_words, most_sites, IsVersion, IsNumber, IsSite, ImageText}
use Rattle.rv_image_file.specs.BadText.{version_in, entry_in, count_in, words_end, sites_in, sites_end, text_end, HasNoFault}
use Rattle.rv_image_file.proofs.NumberBytes.{AreBytes, number_next}
use Rattle.rv_image_file.proofs.SeenText.{text_end-with_sites, text_end-without, length-site_numbers}

-- parts in a row
in_a_row : (m a b c w d s : List ℕ) → (((((m ++ a) ++ b) ++ c) ++ w) ++ d) ++ s ≡ m ++ (a ++ (b ++ (c ++ (w ++ (d ++ s)))))
in_a_row m a b c w d s = simp append_assoc

-- the parts of the text of version 2
parts_of_text :
    (e n count : ℕ) (words numbers : List ℕ)
    → magic
    ++ (bytes_of_number 4 2
    ++ (bytes_of_number 4 e ++ (bytes_of_number 4 n ++ (bytes_of words ++ (bytes_of_number 4 count ++ bytes_of numbers)))))
    ≡ magic ++ bytes_of (2 ∷ e ∷ n ∷ (words ++ count ∷ numbers))
unfolding bytes_of
parts_of_text e n count words numbers =
    ap (λ l. magic ++ (bytes_of_number 4 2 ++ (bytes_of_number 4 e ++ (bytes_of_number 4 n ++ l)))) (sym (bytes_of-append words (count ∷ numbers)))

-- **What is written, part behind part, is the text of version 2.**
pub written :
    (image : Image) (sites places : List Place) (begun t1 t2 t3 t4 t5 text words : List ℕ) (count number : ℕ)
    → begun ≡ magic → t1 ≡ begun ++ bytes_of_number 4 2 → t2 ≡ t1 ++ bytes_of_number 4 image.entry
    → t3 ≡ t2 ++ bytes_of_number 4 count → count ≡ length image.words
    → t4 ≡ t3 ++ bytes_of words → All IsNumber words → words ≡ image.words
    → t5 ≡ t4 ++ bytes_of_number 4 number → number ≡ length sites
    → text ≡ t5 ++ bytes_of (site_numbers places) → All IsSite places → places ≡ sites → length sites ≤ most_sites
    → ImageText text 2 image sites
written image sites places begun t1 t2 t3 t4 t5 text words count number e0 e1 e2 e3 n e4 words_fit w e5 k e6 sites_fit p few =
    let one = bytes_of_number 4 2 in
    let entry = bytes_of_number 4 image.entry in
    let counted_so = bytes_of_number 4 (length image.words) in
    let numbered = bytes_of_number 4 (length sites) in
    let there : text ≡ (((((magic ++ one) ++ entry) ++ counted_so) ++ bytes_of image.words) ++ numbered) ++ bytes_of (site_numbers sites) = cc in
    record {
      spelled =
          there
          ∙ in_a_row magic one entry counted_so (bytes_of image.words) numbered (bytes_of (site_numbers sites))
          ∙ parts_of_text image.entry (length image.words) (length sites) image.words (site_numbers sites);
      version_is = inr refl;
      in_range = record {
        aligned = image.aligned;
        inside = image.inside;
        bounded = image.bounded;
        few = few;
        words_fit = All-same IsNumber image.words words (sym w) words_fit;
        sites_fit = All-same IsSite sites places (sym p) sites_fit;
      };
    }

-- What bytes with no fault have.
record Sound (bytes : List ℕ) : Type 0 where
  header : 16 ≤ length bytes
  version_is : (version_in bytes ≡ 1) ⊎ (version_in bytes ≡ 2)
  bounded : count_in bytes ≤ most_words
  room : words_end bytes ≤ length bytes
  room_for_sites : version_in bytes ≡ 2 → words_end bytes + 4 ≤ length bytes
  few : version_in bytes ≡ 2 → sites_in bytes ≤ most_sites
  ends_by_sites : version_in bytes ≡ 2 → length bytes ≡ sites_end bytes
  ends_by_words : (version_in bytes ≡ 2 → ⊥) → length bytes ≡ words_end bytes
  aligned : entry_in bytes % 4 ≡ 0
  inside : entry_in bytes < 4 * count_in bytes

sound : (bytes : List ℕ) → HasNoFault bytes → Sound bytes
sound bytes n =
    let header : 16 ≤ length bytes = let no : length bytes < 16 → ⊥ = λ h. n.whole (inl h) in omega arith in
    let bounded : count_in bytes ≤ most_words = let no : most_words < count_in bytes → ⊥ = λ h. n.ended (inl h) in omega arith in
    let room : words_end bytes ≤ length bytes =
    let no : length bytes < words_end bytes → ⊥ = λ h. n.whole (inr (bounded, inl h)) in omega arith in
    let room_for_sites : version_in bytes ≡ 2 → words_end bytes + 4 ≤ length bytes =
    λ two. let no : length bytes < words_end bytes + 4 → ⊥ = λ h. n.whole (inr (bounded, inr (two, inl h))) in omega arith in
    let few : version_in bytes ≡ 2 → sites_in bytes ≤ most_sites =
    λ two. let no : most_sites < sites_in bytes → ⊥ = λ h. n.ended (inr (inl (two, h))) in omega arith in
    let no_more : text_end bytes < length bytes → ⊥ = λ h. n.ended (inr (inr h)) in
    record {
      header = header;
      version_is =
          ⊎_elim (λ one. inl one)
          (λ not_one. ⊎_elim (λ two. inr two) (λ not_two. absurd (n.version (inr (not_one, not_two)))) (cases_eq (version_in bytes) 2))
          (cases_eq (version_in bytes) 1);
      bounded = bounded;
      room = room;
      room_for_sites = room_for_sites;
      few = few;
      ends_by_sites = λ two.
          let no : length bytes < sites_end bytes → ⊥ = λ h. n.whole (inr (bounded, inr (two, inr (few two, h)))) in
          omega (arith, text_end-with_sites bytes two);
      ends_by_words = λ other. omega (arith, text_end-without bytes other);
      aligned = ⊎_elim (λ e. e) (λ no. absurd (n.entry (inl no))) (cases_eq (entry_in bytes % 4) 0);
      inside = let no : 4 * count_in bytes ≤ entry_in bytes → ⊥ = λ h. n.entry (inr h) in omega arith;
    }

-- the numbers in front, the words and what stands behind them
spelled :
    (bytes words tail : List ℕ) → 16 ≤ length bytes → AreBytes bytes → take 4 bytes ≡ magic
    → take (4 * count_in bytes) (drop 16 bytes) ≡ bytes_of words → drop (words_end bytes) bytes ≡ bytes_of tail
    → bytes ≡ magic ++ bytes_of (version_in bytes ∷ entry_in bytes ∷ count_in bytes ∷ (words ++ tail))
unfolding bytes_of
spelled bytes words tail long fit begins w t =
    let count = 4 * count_in bytes in
    let body : drop 16 bytes ≡ bytes_of (words ++ tail) =
    sym (take-append-drop count (drop 16 bytes))
    ∙ ap (λ l. l ++ drop count (drop 16 bytes)) w
    ∙ ap (λ l. bytes_of words ++ l) (drop-drop count 16 bytes ∙ t)
    ∙ sym (bytes_of-append words tail) in
    sym (take-append-drop 4 bytes)
    ∙ ap (λ l. l ++ drop 4 bytes) begins
    ∙ ap (λ l. magic ++ l) (number_next bytes 4 (omega arith) fit)
    ∙ ap (λ l. magic ++ (bytes_of_number 4 (version_in bytes) ++ l)) (number_next bytes 8 (omega arith) fit)
    ∙ ap (λ l. magic ++ (bytes_of_number 4 (version_in bytes) ++ (bytes_of_number 4 (entry_in bytes) ++ l))) (number_next bytes 12 (omega arith) fit)
    ∙ ap (λ l. magic ++ (bytes_of_number 4 (version_in bytes) ++ (bytes_of_number 4 (entry_in bytes) ++ (bytes_of_number 4 (count_in bytes) ++ l)))) body

-- the sites that were read
abbrev pub SitesRead : List ℕ → List Place → Type 0
SitesRead bytes sites =
    ((version_in bytes ≡ 2) × (drop (words_end bytes + 4) bytes ≡ bytes_of (site_numbers sites)) × All IsSite sites)
    ⊎ ((version_in bytes ≡ 2 → ⊥) × (sites ≡ []))

-- the words that were read are as many as they are to be
pub counted :
    (bytes words : List ℕ) (end : ℕ) → HasNoFault bytes → end ≡ words_end bytes → take (end - 16) (drop 16 bytes) ≡ bytes_of words
    → length words ≡ count_in bytes
counted bytes words end n e w =
    let s = sound bytes n in
    let room = s.room in
    let long : end - 16 ≤ length (drop 16 bytes) = omega (arith, length-drop 16 bytes) in
    omega (arith, length-bytes_of words, ap length w, length-take-le (end - 16) (drop 16 bytes) long)

-- so the image is in range
pub some_words : (bytes words : List ℕ) → HasNoFault bytes → length words ≡ count_in bytes → 1 ≤ length words
some_words bytes words n e = let i = (sound bytes n).inside in omega (arith, i)

pub few_words : (bytes words : List ℕ) → HasNoFault bytes → length words ≡ count_in bytes → length words ≤ most_words
few_words bytes words n e = let b = (sound bytes n).bounded in omega (arith, b)

pub entry_aligned : (bytes : List ℕ) (entry : ℕ) → HasNoFault bytes → entry ≡ entry_in bytes → entry % 4 ≡ 0
entry_aligned bytes entry n e = ap (λ i. i % 4) e ∙ (sound bytes n).aligned

pub entry_inside :
    (bytes words : List ℕ) (entry : ℕ) → HasNoFault bytes → length words ≡ count_in bytes → entry ≡ entry_in bytes → entry < 4 * length words
entry_inside bytes words entry n c e = let i = (sound bytes n).inside in omega (arith, i)

pub with_sites :
    (bytes : List ℕ) (version end : ℕ) (sites read : List Place) → version ≡ version_in bytes → version ≡ 2 → end ≡ words_end bytes
    → take (length bytes - (end + 4)) (drop (end + 4) bytes) ≡ bytes_of (site_numbers read) → All IsSite read → sites ≡ read
    → SitesRead bytes sites
with_sites bytes version end sites read v two e t fit is =
    inl (
      sym v ∙ two,
      ap (λ k. drop (k + 4) bytes) (sym e) ∙ sym (take_rest bytes (end + 4)) ∙ t ∙ ap (λ l. bytes_of (site_numbers l)) (sym is),
      All-same IsSite sites read is fit,
    )

pub with_no_sites :
    (bytes : List ℕ) (version : ℕ) (sites read : List Place) → version ≡ version_in bytes → (version ≡ 2 → ⊥) → read ≡ [] → sites ≡ read
    → SitesRead bytes sites
with_no_sites bytes version sites read v other none is = inr (λ two. other (v ∙ two), is ∙ none)

-- what stands behind the words, by the sites that were read
record Behind (bytes : List ℕ) (sites : List Place) : Type 0 where
  spelled_so : drop (words_end bytes) bytes ≡ bytes_of (site_part (version_in bytes) sites)
  few : length sites ≤ most_sites
  fit : All IsSite sites
  version_is : IsVersion (version_in bytes) sites

behind : (bytes : List ℕ) (sites : List Place) → HasNoFault bytes → AreBytes bytes → SitesRead bytes sites → Behind bytes sites
unfolding bytes_of
behind bytes sites n fit read =
    let s = sound bytes n in
    ⊎_elim
    (λ p.
    let two : version_in bytes ≡ 2 = p.0 in
    let end : length bytes ≡ sites_end bytes = s.ends_by_sites two in
    let few : sites_in bytes ≤ most_sites = s.few two in
    let lengths : length (drop (words_end bytes + 4) bytes) ≡ 4 * length (site_numbers sites) =
    ap length p.1 ∙ length-bytes_of (site_numbers sites) in
    let count : sites_in bytes ≡ length sites =
    omega (arith, length-drop (words_end bytes + 4) bytes, lengths, length-site_numbers sites) in
    record {
      spelled_so =
          number_next bytes (words_end bytes) (s.room_for_sites two) fit
          ∙ ap (λ l. bytes_of_number 4 (sites_in bytes) ++ l) p.1
          ∙ ap (λ k. bytes_of_number 4 k ++ bytes_of (site_numbers sites)) count
          ∙ ap (λ v. bytes_of (site_part v sites)) (sym two);
      few = omega arith;
      fit = p.2;
      version_is = inr two;
    })
    (λ p.
    let one : version_in bytes ≡ 1 = ⊎_elim (λ e. e) (λ two. absurd (p.0 two)) s.version_is in
    let end : length bytes ≡ words_end bytes = s.ends_by_words p.0 in
    record {
      spelled_so =
          drop_all (words_end bytes) bytes (omega arith) ∙ ap (λ v. bytes_of (site_part v sites)) (sym one);
      few = let e : length sites ≡ 0 = ap length p.1 in omega arith;
      fit = All-same IsSite sites [] p.1 (All-nil IsSite);
      version_is = inl (one, p.1);
    })
    read

-- **Bytes with no fault are the text of what is read of them.**
pub made :
    (bytes words : List ℕ) (end : ℕ) (image : Image) (sites : List Place) → HasNoFault bytes → AreBytes bytes → end ≡ words_end bytes
    → take (end - 16) (drop 16 bytes) ≡ bytes_of words → All IsNumber words → image.words ≡ words → image.entry ≡ entry_in bytes
    → SitesRead bytes sites → ImageText bytes (version_in bytes) image sites
made bytes words end image sites n fit e w words_fit is entry read =
    let s = sound bytes n in
    let b = behind bytes sites n fit read in
    let count : length image.words ≡ count_in bytes = ap length is ∙ counted bytes words end n e w in
    let size : end - 16 ≡ 4 * count_in bytes = omega arith in
    let there : take (4 * count_in bytes) (drop 16 bytes) ≡ bytes_of image.words =
    ap (λ k. take k (drop 16 bytes)) (sym size) ∙ w ∙ ap bytes_of (sym is) in
    let tail = site_part (version_in bytes) sites in
    record {
      spelled =
          spelled bytes image.words tail s.header fit n.begins there b.spelled_so
          ∙ ap (λ i. magic ++ bytes_of (version_in bytes ∷ i ∷ count_in bytes ∷ (image.words ++ tail))) (sym entry)
          ∙ ap (λ k. magic ++ bytes_of (version_in bytes ∷ image.entry ∷ k ∷ (image.words ++ tail))) (sym count);
      version_is = b.version_is;
      in_range = record {
        aligned = image.aligned;
        inside = image.inside;
        bounded = image.bounded;
        few = b.few;
        words_fit = All-same IsNumber image.words words is words_fit;
        sites_fit = b.fit;
      };
    }
