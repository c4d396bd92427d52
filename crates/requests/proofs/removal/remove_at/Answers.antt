-- `requests::removal::remove_at` meets its contract.
use Rattle.std.proofs.Common.{rules}
use mathlib.Core.Path.{refl}
use Rattle.store.specs.Store.{first, count, peer_count}
use Rattle.requests.proofs.AroundLaws.{around}
use Rattle.requests.proofs.DeleteLaws.{removed_written}
use Rattle.requests.proofs.removal.remove_at.Goals as goal

pub returns : goal.returns
returns c =
    let a = c.args in
    let s = a.s.now in
    let n = c.number_at-n.result in
    removed_written a.lim s a.i n (peer_count s) (first s a.i) (count s a.i) c.replace_peers.new.s c.close_gap.new.s c.put_number.new.s
    (around a.lim s a.i n (peer_count s) (first s a.i) (count s a.i) (search rules) c.requires.s_value c.requires.i_bound c.number_at-n.ensures.0 refl refl refl)
    c.replace_peers.ensures c.close_gap.ensures c.put_number.ensures
