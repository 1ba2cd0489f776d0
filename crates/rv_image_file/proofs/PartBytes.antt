-- The bytes of lists of words and of sites, one more at a time.
use Rattle.std.proofs.Common.{◌≡◌, ℕ, ◌+◌, ◌*◌, ◌<◌, ◌≤◌, List, [], ◌∷◌, ◌++◌, length, take, drop, get_or, refl, sym, ap, ◌∙◌, arith, append_assoc}
use Rattle.std.proofs.lemmas.List.{take_more, drop_all, append-nil}
use Rattle.base.specs.declared.place.Place.{Place}
use Rattle.rv_machine.specs.Memory.{bytes_of_number, bytes_of}
use Rattle.rv_machine.specs.Words.{bytes_of-append}
use Rattle.rv_image_file.specs.ImageText.{site_numbers}
use Rattle.rv_image_file.specs.BadText.{number_in}
use Rattle.rv_image_file.proofs.NumberBytes.{AreBytes, number_next}

pub bytes_of-push : (words : List ℕ) (word : ℕ) → bytes_of (words ++ word ∷ []) ≡ bytes_of words ++ bytes_of_number 4 word
unfolding bytes_of bytes_of_number
bytes_of-push words word = bytes_of-append words (word ∷ [])

pub site_numbers-push :
    (sites : List Place) (site : Place) → site_numbers (sites ++ site ∷ []) ≡ site_numbers sites ++ site.line ∷ site.column ∷ []
unfolding site_numbers
site_numbers-push [] site = refl
site_numbers-push (s ∷ sites) site = ap (λ l. s.line ∷ s.column ∷ l) (site_numbers-push sites site)

pub bytes_of_sites-push :
    (sites : List Place) (site : Place)
    → bytes_of (site_numbers (sites ++ site ∷ []))
    ≡ (bytes_of (site_numbers sites) ++ bytes_of_number 4 site.line) ++ bytes_of_number 4 site.column
unfolding bytes_of bytes_of_number
bytes_of_sites-push sites site =
    ap bytes_of (site_numbers-push sites site)
    ∙ bytes_of-append (site_numbers sites) (site.line ∷ site.column ∷ [])
    ∙ sym (append_assoc (bytes_of (site_numbers sites)) (bytes_of_number 4 site.line) (bytes_of_number 4 site.column))

-- one more word is written
pub put_word :
    (out now after words : List ℕ) (i : ℕ) → i < length words → now ≡ out ++ bytes_of (take i words)
    → after ≡ now ++ bytes_of_number 4 (get_or words i 0)
    → after ≡ out ++ bytes_of (take (i + 1) words)
put_word out now after words i h e f =
    let x = bytes_of_number 4 (get_or words i 0) in
    f
    ∙ ap (λ l. l ++ x) e
    ∙ append_assoc out (bytes_of (take i words)) x
    ∙ ap (λ l. out ++ l) (sym (bytes_of-push (take i words) (get_or words i 0)) ∙ ap bytes_of (sym (take_more words i 0 h)))

-- one more site is written
pub put_site :
    (out now next after : List ℕ) (sites : List Place) (i : ℕ) (d : Place) → i < length sites
    → now ≡ out ++ bytes_of (site_numbers (take i sites))
    → next ≡ now ++ bytes_of_number 4 (get_or sites i d).line
    → after ≡ next ++ bytes_of_number 4 (get_or sites i d).column
    → after ≡ out ++ bytes_of (site_numbers (take (i + 1) sites))
put_site out now next after sites i d h e f g =
    let site = get_or sites i d in
    let before = bytes_of (site_numbers (take i sites)) in
    let x = bytes_of_number 4 site.line in
    let y = bytes_of_number 4 site.column in
    g
    ∙ ap (λ l. l ++ y) (f ∙ ap (λ l. l ++ x) e ∙ append_assoc out before x)
    ∙ append_assoc out (before ++ x) y
    ∙ ap (λ l. out ++ l) (sym (bytes_of_sites-push (take i sites) site))
    ∙ ap (λ l. out ++ bytes_of (site_numbers l)) (sym (take_more sites i d h))

-- one more word is read
pub take_word :
    (bytes words after : List ℕ) (at word : ℕ) → 4 * at + 4 ≤ length bytes → AreBytes bytes → word ≡ number_in bytes (4 * at)
    → bytes ≡ bytes_of words ++ drop (4 * at) bytes → after ≡ words ++ word ∷ []
    → bytes ≡ bytes_of after ++ drop (4 * (at + 1)) bytes
take_word bytes words after at word h fit is e f =
    let next : 4 * at + 4 ≡ 4 * (at + 1) = omega arith in
    let rest = drop (4 * at + 4) bytes in
    e
    ∙ ap (λ l. bytes_of words ++ l) (number_next bytes (4 * at) h fit)
    ∙ ap (λ n. bytes_of words ++ (bytes_of_number 4 n ++ rest)) (sym is)
    ∙ sym (append_assoc (bytes_of words) (bytes_of_number 4 word) rest)
    ∙ ap (λ l. l ++ rest) (sym (bytes_of-push words word) ∙ ap bytes_of (sym f))
    ∙ ap (λ n. bytes_of after ++ drop n bytes) next

-- one more site is read
pub take_site :
    (bytes : List ℕ) (sites after : List Place) (at : ℕ) (site : Place) → 8 * at + 8 ≤ length bytes → AreBytes bytes
    → site.line ≡ number_in bytes (8 * at) → site.column ≡ number_in bytes (8 * at + 4)
    → bytes ≡ bytes_of (site_numbers sites) ++ drop (8 * at) bytes → after ≡ sites ++ site ∷ []
    → bytes ≡ bytes_of (site_numbers after) ++ drop (8 * (at + 1)) bytes
take_site bytes sites after at site h fit line column e f =
    let next : 8 * at + 4 + 4 ≡ 8 * (at + 1) = omega arith in
    let before = bytes_of (site_numbers sites) in
    let rest = drop (8 * at + 4 + 4) bytes in
    let x = bytes_of_number 4 site.line in
    let y = bytes_of_number 4 site.column in
    e
    ∙ ap (λ l. before ++ l) (number_next bytes (8 * at) (omega arith) fit)
    ∙ ap (λ n. before ++ (bytes_of_number 4 n ++ drop (8 * at + 4) bytes)) (sym line)
    ∙ ap (λ l. before ++ (x ++ l)) (number_next bytes (8 * at + 4) (omega arith) fit)
    ∙ ap (λ n. before ++ (x ++ (bytes_of_number 4 n ++ rest))) (sym column)
    ∙ sym (append_assoc before x (y ++ rest))
    ∙ sym (append_assoc (before ++ x) y rest)
    ∙ ap (λ l. l ++ rest) (sym (bytes_of_sites-push sites site) ∙ ap (λ l. bytes_of (site_numbers l)) (sym f))
    ∙ ap (λ n. bytes_of (site_numbers after) ++ drop n bytes) next

-- all is read
pub all_taken : (bytes front : List ℕ) (n : ℕ) → bytes ≡ front ++ drop n bytes → length bytes ≤ n → bytes ≡ front
all_taken bytes front n e h = e ∙ ap (λ l. front ++ l) (drop_all n bytes h) ∙ append-nil front

-- nothing is written or read at first
pub none_put : (out : List ℕ) → out ≡ out ++ bytes_of []
unfolding bytes_of
none_put out = sym (append-nil out)

pub no_site_put : (out : List ℕ) → out ≡ out ++ bytes_of (site_numbers [])
unfolding bytes_of site_numbers
no_site_put out = sym (append-nil out)

pub none_taken : (bytes words : List ℕ) → words ≡ [] → bytes ≡ bytes_of words ++ bytes
unfolding bytes_of
none_taken bytes words e = sym (ap (λ l. bytes_of l ++ bytes) e)

pub no_site_taken : (bytes : List ℕ) (sites : List Place) → sites ≡ [] → bytes ≡ bytes_of (site_numbers sites) ++ bytes
unfolding bytes_of site_numbers
no_site_taken bytes sites e = sym (ap (λ l. bytes_of (site_numbers l) ++ bytes) e)
