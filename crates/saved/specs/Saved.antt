-- The saved form of a loop (02, a and h): a row of records, each a four-byte body length, a two-byte kind and the body,
-- the numbers little-endian. How it is written from an area, and how a save is read.
use Rattle.std.specs.Prelude.{ℕ, zero, suc, ◌+◌, ◌*◌, ◌/◌, ◌%◌, List, [], ◌∷◌, ◌++◌, map, Bool, true, ◌&&◌, length, get_or, set, take, drop, eqb, leb}
use Rattle.record.specs.Record.{record_size}
use Rattle.area.specs.Sizes.{header_size, link_size, is_count}
use Rattle.area.specs.Parts.{parts, join, all}
use Rattle.area.specs.Loop.{records_in, links_in}

-- the kinds of record: the area's header, a device's record, a link
abbrev pub header_kind : ℕ
header_kind = 1

abbrev pub device_kind : ℕ
device_kind = 2

abbrev pub link_kind : ℕ
link_kind = 3

-- ---- One record

-- x in so many bytes, the lowest first
abbrev pub little : ℕ → ℕ → List ℕ
little zero x = []
little (suc n) x = x % 256 ∷ little n (x / 256)

-- what stands before a body of so many bytes: that length, and the kind
abbrev pub head_size : ℕ
head_size = 4 + 2

unfoldable pub head_of : ℕ → ℕ → List ℕ
head_of kind size = little 4 size ++ little 2 kind

-- a body as a record of this kind, and a record's body
unfoldable pub recorded : ℕ → List ℕ → List ℕ
recorded kind b = head_of kind (length b) ++ b

abbrev pub body : List ℕ → List ℕ
body r = drop head_size r

-- ---- Written

-- kind 1's byte 1 is the edition of a save (02, h): 0 in those from before loads took a choice, 1 now
abbrev pub edition_at : ℕ
edition_at = head_size + 1

abbrev pub edition_old : ℕ
edition_old = 0

abbrev pub edition_now : ℕ
edition_now = 1

-- a record of kind 1 with the edition now, and its body with the area's own byte 1, which is zero
abbrev pub with_edition : List ℕ → List ℕ
with_edition r = set r edition_at edition_now

abbrev pub without_edition : List ℕ → List ℕ
without_edition b = set b 1 0

-- parts in a row: the header's, once and first, then each device's, then each link's, in order
abbrev pub row_of : (header : List ℕ) (devices links : List (List ℕ)) → List ℕ
row_of h ds ls = h ++ (join ds ++ join ls)

-- the saved form of an area
unfoldable pub saved : List ℕ → List ℕ
saved a =
    row_of (with_edition (recorded header_kind (take header_size a)))
    (map (recorded device_kind) (records_in a)) (map (recorded link_kind) (links_in a))

-- ---- Read

-- the bytes of a header, of a device's record and of a link in a save, what stands before it included
abbrev pub saved_header_size : ℕ
saved_header_size = head_size + header_size

abbrev pub saved_device_size : ℕ
saved_device_size = head_size + record_size

abbrev pub saved_link_size : ℕ
saved_link_size = head_size + link_size

-- where the links' records start in a save of n devices, and where it ends
abbrev pub saved_links_at : ℕ → ℕ
saved_links_at n = saved_header_size + saved_device_size * n

abbrev pub saved_size : ℕ → ℕ
saved_size n = saved_links_at n + saved_link_size * (n + 1)

-- the number of devices in a save: byte 0 of its first body
abbrev pub saved_count : List ℕ → ℕ
saved_count s = get_or s head_size 0

-- its edition
abbrev pub edition : List ℕ → ℕ
edition s = get_or s edition_at 0

-- its parts, by the number of devices
abbrev pub saved_header : List ℕ → List ℕ
saved_header s = take saved_header_size s

abbrev pub saved_devices : List ℕ → List (List ℕ)
saved_devices s = parts saved_device_size (saved_count s) (drop saved_header_size s)

abbrev pub saved_links : List ℕ → List (List ℕ)
saved_links s = parts saved_link_size (suc (saved_count s)) (drop (saved_links_at (saved_count s)) s)

-- the bytes from a place on are these; past the end they read as 0
unfoldable pub stands : ℕ → List ℕ → List ℕ → Bool
stands at [] s = true
stands at (x ∷ xs) s = eqb (get_or s at 0) x && stands (suc at) xs s

-- a whole record starts with its body's length and this kind
unfoldable pub is_of : ℕ → List ℕ → Bool
is_of kind r = stands 0 (head_of kind (length (body r))) r

-- each part is a record of its kind, in order
unfoldable pub headed : List ℕ → Bool
headed s =
    is_of header_kind (saved_header s) &&
    (all (is_of device_kind) (saved_devices s) && all (is_of link_kind) (saved_links s))

-- a save in form, to a reader of at most so many devices: its count, its end, its records and its edition
unfoldable pub formed : ℕ → List ℕ → Bool
formed limit s =
    is_count limit (saved_count s) &&
    (eqb (length s) (saved_size (saved_count s)) && (headed s && leb (edition s) edition_now))

-- the area that a save holds: its bodies
unfoldable pub contents : List ℕ → List ℕ
contents s = row_of (without_edition (body (saved_header s))) (map body (saved_devices s)) (map body (saved_links s))
