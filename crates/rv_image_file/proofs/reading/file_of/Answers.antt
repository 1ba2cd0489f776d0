use Rattle.std.proofs.Common.{◌≡◌, length, refl, arith}
use Rattle.rv_image_file.specs.BadText.{count_in}
use Rattle.rv_image_file.proofs.MadeText.{counted, some_words, few_words, entry_aligned, entry_inside, SitesRead, with_sites, with_no_sites, made}
use Rattle.rv_image_file.proofs.reading.file_of.Goals as goal
use Rattle.rv_image_file.proofs.reading.file_of.Goals.{then-number_at-eq2+in_ok-sites, else-number_at-eq2}

pub invariant_of-result : goal.invariant_of-result
invariant_of-result c =
    let bytes = c.args.bytes.now in
    let words = c.in_ok-words.words in
    let count : length words ≡ count_in bytes = counted bytes words c.words_end-end.result c.requires c.words_end-end.ensures.exact c.in_ok-words.ensures.spelled in
    record {
      some = some_words bytes words c.requires count;
      bounded = few_words bytes words c.requires count;
      aligned = entry_aligned bytes c.number_at-entry.result c.requires c.number_at-entry.ensures;
      inside = entry_inside bytes words c.number_at-entry.result c.requires count c.number_at-entry.ensures;
    }

pub returns : goal.returns
returns c =
    let bytes = c.args.bytes.now in
    let sites = c.if-number_at-eq2.sites in
    let read : SitesRead bytes sites =
    elim c.if-number_at-eq2.branch [
      | then-number_at-eq2+in_ok-sites w ↦
          with_sites bytes c.number_at.result c.words_end-end.result sites w.in_ok-sites.sites c.number_at.ensures w.if-number_at-eq2.true
          c.words_end-end.ensures.exact w.in_ok-sites.ensures.spelled w.in_ok-sites.ensures.fit w.sites-is
      | else-number_at-eq2 w ↦
          with_no_sites bytes c.number_at.result sites w.new-sites.result c.number_at.ensures w.if-number_at-eq2.false w.new-sites.ensures w.sites-is
    ] in
    made bytes c.in_ok-words.words c.words_end-end.result _ sites c.requires (λ i. omega (arith, c.type_inv.bytes i))
    c.words_end-end.ensures.exact c.in_ok-words.ensures.spelled c.in_ok-words.ensures.fit refl c.number_at-entry.ensures read
