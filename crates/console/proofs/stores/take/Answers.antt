-- `console::stores::take` meets its contract.
use Rattle.std.proofs.Common.{sym, ◌∙◌, arith}
use Rattle.console.specs.Bench.{store_of}
use Rattle.console.proofs.BenchLaws.{edition-length, large-kept, large-taken, store_kept, store-taken}
use Rattle.console.proofs.stores.take.Goals as goal

pub slice_bounds-copy_from_slice-end : goal.slice_bounds-copy_from_slice-end
slice_bounds-copy_from_slice-end c =
    omega (arith, (edition-length c.decode-n.result c.in-Some.field-0 (sym c.edition_of.ensures ∙ c.in-Some.is)).0)

pub returns-in-Some : goal.returns-in-Some
returns-in-Some c =
    let a = c.args in (
      large-taken a.text.now c.word.result.now c.decode-n.new.out c.decode-n.result c.word.ensures c.decode-n.ensures a.large
          c.in-Some.field-0 (sym c.edition_of.ensures ∙ c.in-Some.is),
      store-taken a.text.now c.word.result.now c.decode-n.new.out c.decode-n.result c.word.ensures c.decode-n.ensures (store_of a.large a.store.now) c.copy_from_slice.new.self _
          c.in-Some.field-0 (sym c.edition_of.ensures ∙ c.in-Some.is) c.copy_from_slice.ensures.after,
    )

pub returns-in-None : goal.returns-in-None
returns-in-None c =
    let a = c.args in (
      large-kept a.text.now c.word.result.now c.decode-n.new.out c.decode-n.result c.word.ensures c.decode-n.ensures a.large
          (sym c.edition_of.ensures ∙ c.in-None.is),
      store_kept a.text.now c.word.result.now c.decode-n.new.out c.decode-n.result c.word.ensures c.decode-n.ensures (store_of a.large a.store.now) (sym c.edition_of.ensures ∙ c.in-None.is),
    )
