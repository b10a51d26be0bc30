-- The ranges of a plan's numbers, both ends included (profile); PIDs have 13 bits, and the last is that of null packets
-- (ISO/IEC 13818-1, 2.4.3.3). They stand here as numbers, so that the code's constants can be no others.
use Rattle.std.specs.Prelude.{ℕ}

-- rates and leak rates, in bits a second
abbrev pub MIN_RATE : ℕ
MIN_RATE = 500000

abbrev pub MAX_RATE : ℕ
MAX_RATE = 100000000

abbrev pub MIN_LEAK : ℕ
MIN_LEAK = 1000

abbrev pub MAX_LEAK : ℕ
MAX_LEAK = 100000000

-- an hour, in ticks of 27 MHz
abbrev pub MAX_OFFSET : ℕ
MAX_OFFSET = 97200000000

-- of a period, in slots
abbrev pub MAX_SLOTS : ℕ
MAX_SLOTS = 1000000

abbrev pub MAX_VERSION : ℕ
MAX_VERSION = 31

-- of packets in a queue or a ring
abbrev pub MAX_ITEMS : ℕ
MAX_ITEMS = 1024

-- of an identifier of 16 bits
abbrev pub MAX_ID : ℕ
MAX_ID = 65535

-- those below are kept for tables
abbrev pub FIRST_PID : ℕ
FIRST_PID = 0x0020

abbrev pub LAST_PID : ℕ
LAST_PID = 0x1FFE

abbrev pub MAX_INPUTS : ℕ
MAX_INPUTS = 8

abbrev pub MAX_SERVICES : ℕ
MAX_SERVICES = 16

abbrev pub MAX_STREAMS : ℕ
MAX_STREAMS = 64

-- bytes of a network_name, which are from a space to a tilde
abbrev pub MAX_NAME : ℕ
MAX_NAME = 64

abbrev pub FIRST_LETTER : ℕ
FIRST_LETTER = 0x20

abbrev pub LAST_LETTER : ℕ
LAST_LETTER = 0x7E

-- bytes of transport_descriptors
abbrev pub MAX_DESCRIPTORS : ℕ
MAX_DESCRIPTORS = 900
