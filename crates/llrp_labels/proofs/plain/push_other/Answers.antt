use Rattle.std.proofs.Common.{None, inr, refl}
use Rattle.llrp_labels.proofs.LineLemmas.{ends_in_none, no_uri}
use Rattle.llrp_labels.proofs.plain.push_other.Goals as goal

pub returns-in-Some : goal.returns-in-Some
returns-in-Some c =
    let (front, is) = c.requires.last in
    let (on, uri, fault) = c.in-Some.ensures in
    (c.requires.body, on, (front, c.args.last.now, is, uri, fault))

pub returns : goal.returns
returns c =
    let (front, is) = c.requires.last in (
      c.args.line.now,
      (
        c.args.line.now,
        None,
        c.requires.body,
        inr (
          (λ a word h. ends_in_none c.args.labels.schemes c.args.line.now front c.args.last.now a word is c.requires.none h),
          (λ on a y h uri. no_uri c.args.line.now front c.args.last.now a y is h (c.in_default.ensures on) uri),
          refl,
          refl,
        ),
      ),
      c.in_ok-extend_from_slice.ensures.items,
    )
