use Rattle.rv_image_file.proofs.MadeText.{written}
use Rattle.rv_image_file.proofs.writing.write_image.Goals as goal

pub returns : goal.returns
returns c =
    written c.args.image.now c.args.sites.now _ c.in_ok-text.text c.put_number.new.out c.put_number-2.new.out c.put_number-3.new.out
    c.put_words.new.out c.put_number-4.new.out c.put_sites.new.out c.as_slice.result.now c.words.result c.len.result
    c.in_ok-text.ensures c.in_ok-put_number.ensures c.in_ok-put_number-2.ensures
    c.in_ok-put_number-3.ensures c.words.ensures.exact
    c.in_ok-put_words.ensures.spelled c.in_ok-put_words.ensures.fit c.as_slice.ensures
    c.in_ok-put_number-4.ensures c.len.ensures
    c.in_ok-put_sites.ensures.spelled c.in_ok-put_sites.ensures.fit c.as_slice-2.ensures c.requires
