-- Document 01's starred numbers, those of edition 2 and those of transaction numbers, computed. And answers to an unsound store.
-- Assumes nothing.
use mathlib.Core.Path.{◌≡◌, refl}
use mathlib.Core.Bool.{true}
use mathlib.Core.List.{[], ◌∷◌, map}
use lib.ListN.{replicate}
use lib.Count.{ones}
use Rattle.octets.specs.Bytes.{part, splice, all_zero, same, all_below}
use Rattle.octets.specs.Words.{numbers, words, elem}
use Rattle.store.specs.Layout.{edition1, edition2, edition_in, edition_of}
use Rattle.store.specs.Store.{peers_of, header, key_record, key_records, encode, entries_from, entries, all_hold, header_ok, counts_ok, sum_before, sums_ok, new_key, unique_ok, all_odd, parity_ok, unused_ok, sound}
use Rattle.store.specs.Search.{place_where, latest, find_in, find}
use Rattle.store.specs.Request.{first_reason, result, done, after, work}
use Rattle.message.specs.Header.{kind_of}
use Rattle.message.specs.Written.{init_ok}
use Rattle.message.specs.Body.{size_at, fields_ok, request_at, fields_from, requests_from, requests, body_ok}
use Rattle.session.specs.Rules.{respond, first_failed, all_pass, verdict, heard, obey, opens, while_waiting, in_state, receive_in, receive}
use Rattle.runs.specs.Calls.{brings, searches, seen, next, all_seen}
use Rattle.runs.specs.Sound.{says_unsound}
use Rattle.runs.specs.Starred.{expecting, adds, headed, hold, starred, larger, transactions}

pub starred-hold : hold starred ≡ true
unfolding hold starred same receive receive_in edition_of edition_in in_state verdict first_failed heard all_pass obey respond kind_of body_ok fields_from fields_ok size_at requests requests_from request_at work after result first_reason done place_where peers_of encode header key_record key_records words numbers elem entries entries_from sound all_hold header_ok counts_ok sums_ok sum_before unique_ok new_key parity_ok all_odd unused_ok all_below all_zero part splice ones find find_in latest
starred-hold = refl

pub larger-hold : hold larger ≡ true
unfolding hold larger same receive receive_in edition_of edition_in in_state verdict first_failed heard all_pass obey respond kind_of body_ok fields_from fields_ok size_at requests requests_from request_at work after result first_reason done place_where peers_of encode header key_record key_records words numbers elem entries entries_from sound all_hold header_ok counts_ok sums_ok sum_before unique_ok new_key parity_ok all_odd unused_ok all_below all_zero part splice ones find find_in latest
larger-hold = refl

pub transactions-hold : hold transactions ≡ true
unfolding hold transactions same receive receive_in edition_of edition_in in_state while_waiting opens init_ok verdict first_failed heard all_pass obey respond kind_of body_ok fields_from fields_ok size_at requests requests_from request_at work after result first_reason done place_where peers_of encode header key_record key_records words numbers elem entries entries_from sound all_hold header_ok counts_ok sums_ok sum_before unique_ok new_key parity_ok all_odd unused_ok all_below all_zero part splice ones find find_in latest
transactions-hold = refl

-- with an unsound store an add is answered 6 and a search H12: NeverSix speaks of answers that there are
pub unsound-told : map says_unsound (all_seen (brings (adds (8 ∷ [])) (replicate 1032 0) ∷ searches 8 1 ∷ []) (record { session = expecting 5; store = headed edition2 edition1 })) ≡ true ∷ true ∷ []
unfolding all_seen seen next receive receive_in edition_of edition_in in_state verdict first_failed heard all_pass obey respond kind_of body_ok fields_from fields_ok size_at requests requests_from request_at work after result first_reason done place_where peers_of encode header key_record key_records words numbers elem entries entries_from sound all_hold header_ok counts_ok sums_ok sum_before unique_ok new_key parity_ok all_odd unused_ok all_below all_zero part splice ones find find_in latest
unsound-told = refl
