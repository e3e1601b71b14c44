use Rattle.std.proofs.Common.{sym, subst}
use Rattle.std.proofs.lemmas.Result.{on_ok_weaker}
use Rattle.llrp_schema.specs.declared.kinds.Tail.{Tail}
use Rattle.llrp_stream.specs.Calls.Received.{AreWhole}
use Rattle.llrp_listing.specs.Private.Tails.{MoreTail}
use Rattle.llrp_listing.proofs.TailLemmas.{words_tail, text_tail, bits_tail, data_tail}
use Rattle.llrp_listing.proofs.printing.tails.push_octets.Goals as goal

pub returns-in-Words : goal.returns-in-Words
returns-in-Words c =
    let whole = subst (λ (f : Tail). AreWhole f c.args.octets.now) c.in-Words.is c.requires in
    on_ok_weaker c.push_words.result
    (λ m. subst (λ (f : Tail). MoreTail f c.args.text.now c.push_words.new.text c.args.octets.now) (sym c.in-Words.is) (words_tail _ _ _ (m whole.0 whole.1)))
    c.push_words.ensures

pub returns-in-Text : goal.returns-in-Text
returns-in-Text c =
    on_ok_weaker c.push_hexadecimal.result
    (λ m. subst (λ (f : Tail). MoreTail f c.args.text.now c.push_hexadecimal.new.self c.args.octets.now) (sym c.in-Text.is) (text_tail _ _ _ m))
    c.push_hexadecimal.ensures

pub returns-in-Bits : goal.returns-in-Bits
returns-in-Bits c =
    on_ok_weaker c.push_hexadecimal-in-Bits.result
    (λ m. subst (λ (f : Tail). MoreTail f c.args.text.now c.push_hexadecimal-in-Bits.new.self c.args.octets.now) (sym c.in-Bits.is) (bits_tail _ _ _ m))
    c.push_hexadecimal-in-Bits.ensures

pub returns-in-Data : goal.returns-in-Data
returns-in-Data c =
    on_ok_weaker c.push_hexadecimal-in-Data.result
    (λ m. subst (λ (f : Tail). MoreTail f c.args.text.now c.push_hexadecimal-in-Data.new.self c.args.octets.now) (sym c.in-Data.is) (data_tail _ _ _ m))
    c.push_hexadecimal-in-Data.ensures
