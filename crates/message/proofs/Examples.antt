-- Messages byte for byte as 000 lays them out (5.3.3, 5.3.4.1, 5.3.8.1, 5.3.13, 5.3.15): written, and read.
-- Assumes nothing.
use mathlib.Core.Path.{◌≡◌, refl}
use mathlib.Core.Bool.{true}
use mathlib.Core.List.{List, [], ◌∷◌}
use Prim.Native.Nat.{ℕ}
use Rattle.octets.specs.Bytes.{part}
use Rattle.octets.specs.Words.{numbers, elem}
use Rattle.store.specs.Request.{add}
use Rattle.message.specs.declared.Command.TheVariants.{Adds}
use Rattle.message.specs.declared.Task.TheVariants.{Requests}
use Rattle.message.specs.Header.{message_length, version, receiver, sender, transaction, sequence, type_number}
use Rattle.message.specs.Body.{size_at, fields_ok, request_at, fields_from, requests_from, requests, body_ok}
use Rattle.message.specs.Written.{init_bytes, reply_bytes, init_ok}

-- a session init of 01020304 to 05060708 with the number 0d0e
abbrev init : List ℕ
init =
    0 ∷ 0 ∷ 0 ∷ 23 ∷ 2 ∷ 0x05 ∷ 0x06 ∷ 0x07 ∷ 0x08 ∷ 0x01 ∷ 0x02 ∷ 0x03 ∷ 0x04 ∷ 0 ∷ 0 ∷ 0 ∷ 0 ∷ 0x0d ∷ 0x0e ∷ 9
    ∷ 1 ∷ 2 ∷ 255 ∷ []

init-bytes : init_bytes 0x01020304 0x05060708 0x0d0e ≡ init
init-bytes = refl

init-read : init_ok init ≡ true
unfolding init_ok part elem
init-read = refl

-- a reply of 01020304 to 05060708 with transaction number 090a0b0c, number 0d0e, RESPONSE 0 and the RESULTs 0 and 255
reply-bytes :
    reply_bytes 0x01020304 0x05060708 0x090a0b0c 0x0d0e 0 (0 ∷ 255 ∷ [])
    ≡ 0 ∷ 0 ∷ 0 ∷ 25 ∷ 2 ∷ 0x05 ∷ 0x06 ∷ 0x07 ∷ 0x08 ∷ 0x01 ∷ 0x02 ∷ 0x03 ∷ 0x04 ∷ 0x09 ∷ 0x0a ∷ 0x0b ∷ 0x0c ∷ 0x0d ∷ 0x0e ∷ 11
    ∷ 0 ∷ 0 ∷ 2 ∷ 0 ∷ 255 ∷ []
reply-bytes = refl

-- an add command with one K-STRUCT of two peers
abbrev command : List ℕ
command =
    0 ∷ 0 ∷ 0 ∷ 77 ∷ 2 ∷ 0x01 ∷ 0x02 ∷ 0x03 ∷ 0x04 ∷ 0x05 ∷ 0x06 ∷ 0x07 ∷ 0x08 ∷ 0x09 ∷ 0x0a ∷ 0x0b ∷ 0x0c ∷ 0x0d ∷ 0x0e ∷ 0
    ∷ 0 ∷ 1
    ∷ 24 ∷ 0x11 ∷ 0x12 ∷ 0x13 ∷ 0x14 ∷ 0x15 ∷ 0x16 ∷ 0x17 ∷ 0x18 ∷ 0x21 ∷ 0x22 ∷ 0x23 ∷ 0x24
    ∷ 1 ∷ 2 ∷ 3 ∷ 4 ∷ 5 ∷ 6 ∷ 7 ∷ 8 ∷ 9 ∷ 10 ∷ 11 ∷ 12 ∷ 13 ∷ 14 ∷ 15 ∷ 16 ∷ 17 ∷ 18 ∷ 19 ∷ 20 ∷ 21 ∷ 22 ∷ 23 ∷ 24
    ∷ 0 ∷ 2 ∷ 0x31 ∷ 0x32 ∷ 0x33 ∷ 0x34 ∷ 0x41 ∷ 0x42 ∷ 0x43 ∷ 0x44
    ∷ 0x51 ∷ 0x52 ∷ 0x53 ∷ 0x54 ∷ 0x61 ∷ 0x62 ∷ 0x63 ∷ 0x64 ∷ []

fields_read :
    message_length command ∷ version command ∷ receiver command ∷ sender command ∷ transaction command ∷ sequence command ∷ type_number command ∷ []
    ≡ 77 ∷ 2 ∷ 0x01020304 ∷ 0x05060708 ∷ 0x090a0b0c ∷ 0x0d0e ∷ 0 ∷ []
fields_read = refl

body-read : body_ok (Requests Adds) command ≡ true
unfolding body_ok fields_from fields_ok size_at
body-read = refl

request-read :
    requests Adds command
    ≡ add 0x21222324
    (record {
      issuer = 0x11121314;
      serial = 0x15161718;
      kmac = 1 ∷ 2 ∷ 3 ∷ 4 ∷ 5 ∷ 6 ∷ 7 ∷ 8 ∷ 9 ∷ 10 ∷ 11 ∷ 12 ∷ 13 ∷ 14 ∷ 15 ∷ 16 ∷ 17 ∷ 18 ∷ 19 ∷ 20 ∷ 21 ∷ 22 ∷ 23 ∷ 24 ∷ [];
      start = 0x51525354;
      end = 0x61626364;
      peers = 0x31323334 ∷ 0x41424344 ∷ [];
    })
    ∷ []
unfolding requests requests_from request_at numbers part size_at
request-read = refl
