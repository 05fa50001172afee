use native.Mathlib.Omega.{arith}
use mathlib.Core.Path.{refl, ap, ◌∙◌}
use mathlib.Core.List.{List, [], ◌++◌}
use Prim.Native.Nat.{ℕ}
use lib.ListN.{drop}
use Rattle.octets.specs.Number.{Octets}
use Rattle.status.proofs.LimitFacts.{count_fits}
use Rattle.distributor.proofs.PackingLaws.{put_nothing}
use Rattle.distributor.proofs.PageLaws.{shown_few, count_few, page_length, page_packed, page_refused, page_written}
use Rattle.distributor.proofs.paging.write_page.Goals as goal

pub live_count-count-requires : goal.live_count-count-requires
live_count-count-requires c =
    let s = c.args.state.now in
    shown_few s {count = _} c.shown_rows-shown.ensures refl

pub page_octets-octets-requires : goal.page_octets-octets-requires
page_octets-octets-requires c =
    let s = c.args.state.now in
    count_few s c.shown_rows-shown.ensures c.live_count-count.ensures

pub returns-then-out-octets : goal.returns-then-out-octets
returns-then-out-octets c =
    let a = c.args in
    let l = page_length a.state.now c.shown_rows-shown.ensures c.live_count-count.ensures c.page_octets-octets.ensures in
    page_refused a.state.now a.out.now (omega (arith, l, c.if-out-octets.true))

pub put-start-requires : goal.put-start-requires
put-start-requires c =
    let s = c.args.state.now in
    let n = c.live_count-count.result in
    let q = c.page_octets-octets.ensures in
    (record { few = omega arith; room = omega (arith, q) }, omega arith, count_fits n (count_few s c.shown_rows-shown.ensures c.live_count-count.ensures))

pub put_places-w-requires : goal.put_places-w-requires
put_places-w-requires c =
    let s = c.args.state.now in
    let q = c.page_octets-octets.ensures in
    let p = c.put-start.ensures.0 in (
      shown_few s c.shown_rows-shown.ensures c.live_count-count.ensures,
      record { few = p.few; room = omega (arith, q, p.width, c.live_count-count.ensures, c.if-out-octets.false, c.put-start.auto.out) },
    )

pub finish-requires : goal.finish-requires
finish-requires c =
    let q = c.page_octets-octets.ensures in
    let n = c.live_count-count.ensures in
    let p = c.put-start.ensures.0 in
    let r = c.put_places-w.ensures.0 in
    record {
      few = r.few;
      all = omega (arith, q, n, p.width, r.width);
      filling = omega (arith, q, n, p.width, r.width);
      room = omega arith;
    }

pub returns : goal.returns
returns c =
    let a = c.args in
    let s = a.state.now in
    let out = a.out.now in
    let l = page_length s c.shown_rows-shown.ensures c.live_count-count.ensures c.page_octets-octets.ensures in
    let p = page_packed s c.shown_rows-shown.ensures c.live_count-count.ensures in
    let first = c.put-start.ensures.1 out [] (put_nothing out) in
    let all = c.put_places-w.ensures.1 out _ first in
    let octets = c.page_octets-octets.result in
    let o : Octets c.finish.new.out = λ i. omega (arith, c.type_inv.out i) in
    page_written s out _ octets (omega (arith, l, c.if-out-octets.false)) l
    (c.finish.ensures out _ o all ∙ ap (λ (x : List ℕ). x ++ drop octets out) p)
