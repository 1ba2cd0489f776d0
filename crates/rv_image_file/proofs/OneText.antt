-- Bytes are the text of at most one image with its sites, in one version.
use Rattle.std.proofs.Common.{◌≡◌, ℕ, ◌/◌, ◌%◌, ◌^◌, ◌<◌, Bool, true, false, List, [], ◌∷◌, ◌++◌, length, refl, sym, ap, ◌∙◌, arith, ⊎_elim, subst}
use Rattle.std.specs.Prelude.{All, if◌then◌else◌, ◌==◌}
use Rattle.std.proofs.lemmas.List.{append_cancel_left}
use Rattle.std.proofs.lemmas.List.Elements.{All-nil, All-cons, All-head, All-tail, All-append}
use Rattle.base.specs.declared.place.Place.{Place}
use Rattle.rv_machine.specs.declared.image.Image.{Image}
use Rattle.rv_machine.specs.Memory.{bytes_of_number, bytes_of}
use Rattle.rv_image_file.specs.ImageText.{magic, site_numbers, site_part, image_numbers, IsVersion, IsNumber, IsSite, IsInRange, ImageText, image_text}

-- words of 32 bits are told by their bytes
one_list : (xs ys : List ℕ) → All IsNumber xs → All IsNumber ys → bytes_of xs ≡ bytes_of ys → xs ≡ ys
unfolding bytes_of bytes_of_number
one_list [] [] p q e = refl
one_list [] (y ∷ ys) p q e = absurd (cc)
one_list (x ∷ xs) [] p q e = absurd (cc)
one_list (x ∷ xs) (y ∷ ys) p q e =
    let px : x < 2 ^ 32 = All-head IsNumber x xs p in
    let py : y < 2 ^ 32 = All-head IsNumber y ys q in
    let a : x % 256 ≡ y % 256 = cc in
    let b : x / 256 % 256 ≡ y / 256 % 256 = cc in
    let c : x / 256 / 256 % 256 ≡ y / 256 / 256 % 256 = cc in
    let d : x / 256 / 256 / 256 % 256 ≡ y / 256 / 256 / 256 % 256 = cc in
    let tails : bytes_of xs ≡ bytes_of ys = cc in
    let head : x ≡ y = omega arith in
    let rest : xs ≡ ys = one_list xs ys (All-tail IsNumber x xs p) (All-tail IsNumber y ys q) tails in
    cc

one_place : (s t : Place) → s.line ≡ t.line → s.column ≡ t.column → s ≡ t
one_place s t a b =
    let at_line : ℕ → Place = λ l. record { line = l; column = s.column } in
    let at_column : ℕ → Place = λ c. record { line = t.line; column = c } in
    ap at_line a ∙ ap at_column b

one_list_of_sites : (xs ys : List Place) → site_numbers xs ≡ site_numbers ys → xs ≡ ys
unfolding site_numbers
one_list_of_sites [] [] e = refl
one_list_of_sites [] (y ∷ ys) e = absurd (cc)
one_list_of_sites (x ∷ xs) [] e = absurd (cc)
one_list_of_sites (x ∷ xs) (y ∷ ys) e =
    let a : x.line ≡ y.line = cc in
    let b : x.column ≡ y.column = cc in
    let tails : site_numbers xs ≡ site_numbers ys = cc in
    let head : x ≡ y = one_place x y a b in
    let rest : xs ≡ ys = one_list_of_sites xs ys tails in
    cc

-- two lists of one length are told apart in what begins with them
split_at : (xs ys us vs : List ℕ) → length xs ≡ length ys → xs ++ us ≡ ys ++ vs → (xs ≡ ys) × (us ≡ vs)
split_at [] [] us vs h e = (refl, e)
split_at [] (y ∷ ys) us vs h e = absurd (omega arith)
split_at (x ∷ xs) [] us vs h e = absurd (omega arith)
split_at (x ∷ xs) (y ∷ ys) us vs h e =
    let long : length xs ≡ length ys = omega arith in
    let head : x ≡ y = cc in
    let tails : xs ++ us ≡ ys ++ vs = cc in
    let rest : (xs ≡ ys) × (us ≡ vs) = split_at xs ys us vs long tails in
    let front : xs ≡ ys = rest.0 in
    (cc, rest.1)

-- the numbers of a text have 32 bits

site_numbers_fit : (sites : List Place) → All IsSite sites → All IsNumber (site_numbers sites)
unfolding site_numbers
site_numbers_fit [] h = All-nil IsNumber
site_numbers_fit (s ∷ sites) h =
    let here : IsSite s = All-head IsSite s sites h in
    All-cons IsNumber s.line (s.column ∷ site_numbers sites) here.0
    (All-cons IsNumber s.column (site_numbers sites) here.1 (site_numbers_fit sites (All-tail IsSite s sites h)))

chosen_fit : (b : Bool) (xs : List ℕ) → All IsNumber xs → All IsNumber (if b then xs else [])
chosen_fit true xs h = h
chosen_fit false xs h = All-nil IsNumber

version_fits : (version : ℕ) (sites : List Place) → IsVersion version sites → version < 2 ^ 32
version_fits version sites h = ⊎_elim (λ p. let e : version ≡ 1 = p.0 in omega arith) (λ e. omega (arith, e)) h

numbers_fit :
    (bytes : List ℕ) (version : ℕ) (image : Image) (sites : List Place) → ImageText bytes version image sites
    → All IsNumber (image_numbers version image sites)
numbers_fit bytes version image sites h =
    let bounded = h.in_range.bounded in
    let inside = h.in_range.inside in
    let few = h.in_range.few in
    let part : All IsNumber (site_part version sites) =
    chosen_fit (version == 2) (length sites ∷ site_numbers sites)
    (All-cons IsNumber (length sites) (site_numbers sites) (omega arith) (site_numbers_fit sites h.in_range.sites_fit)) in
    let tail = image.words ++ site_part version sites in
    All-cons IsNumber version (image.entry ∷ length image.words ∷ tail) (version_fits version sites h.version_is)
    (All-cons IsNumber image.entry (length image.words ∷ tail) (omega arith)
    (All-cons IsNumber (length image.words) tail (omega arith)
    (All-append IsNumber image.words (site_part version sites) h.in_range.words_fit part)))

one_part :
    (version : ℕ) (sites others : List Place) → IsVersion version sites → IsVersion version others
    → site_part version sites ≡ site_part version others → sites ≡ others
one_part version sites others p q e =
    ⊎_elim
    (λ a. ⊎_elim (λ b. a.1 ∙ sym b.1) (λ b. let one : version ≡ 1 = a.0 in let two : version ≡ 2 = b in absurd (omega arith)) q)
    (λ a.
    let same : length sites ∷ site_numbers sites ≡ length others ∷ site_numbers others =
    sym (ap (λ n. site_part n sites) a) ∙ e ∙ ap (λ n. site_part n others) a in
    let tails : site_numbers sites ≡ site_numbers others = cc in
    one_list_of_sites sites others tails)
    p

pub one_text :
    (bytes : List ℕ) (v w : ℕ) (image other : Image) (sites others : List Place) → ImageText bytes v image sites → ImageText bytes w other others
    → (v ≡ w) × (image.entry ≡ other.entry) × (image.words ≡ other.words) × (sites ≡ others)
one_text bytes v w image other sites others p q =
    let same : bytes_of (image_numbers v image sites) ≡ bytes_of (image_numbers w other others) =
    append_cancel_left magic _ _ (sym p.spelled ∙ q.spelled) in
    let numbers : image_numbers v image sites ≡ image_numbers w other others =
    one_list _ _ (numbers_fit bytes v image sites p) (numbers_fit bytes w other others q) same in
    let versions : v ≡ w = cc in
    let entries : image.entry ≡ other.entry = cc in
    let counts : length image.words ≡ length other.words = cc in
    let tails : image.words ++ site_part v sites ≡ other.words ++ site_part w others = cc in
    let parts : (image.words ≡ other.words) × (site_part v sites ≡ site_part w others) = split_at _ _ _ _ counts tails in
    let P : ℕ → Type 0 = λ n. IsVersion n others in
    let of_other : IsVersion v others = subst P (sym versions) q.version_is in
    (versions, entries, parts.0, one_part v sites others p.version_is of_other (parts.1 ∙ ap (λ n. site_part n others) (sym versions)))

pub one_written :
    (version w : ℕ) (image other : Image) (sites others : List Place) → IsVersion version sites → IsInRange image sites
    → ImageText (image_text version image sites) w other others
    → (w ≡ version) × (other.entry ≡ image.entry) × (other.words ≡ image.words) × (others ≡ sites)
one_written version w image other sites others is range read =
    one_text (image_text version image sites) w version other image others sites read
    (record { spelled = refl; version_is = is; in_range = range })
