-- What a reader's GET_READER_CAPABILITIES_RESPONSE says of transmitting (LLRP 1.1, sections 10 and 16).
use Rattle.std.specs.Prelude.{ℕ, ◌+◌, ◌%◌, ◌==◌, min, Bool, if◌then◌else◌, List, [], ◌∷◌, slice_index, Option, None, Some}
use Rattle.llrp_schema.specs.declared.kinds.ParamKind.{ParamKind}
use Rattle.llrp_schema.specs.declared.kinds.ParamKind.TheVariants.{WholeRegulatoryCapabilities, WholeUhfBandCapabilities, WholeTransmitPowerLevelTableEntry, WholeFrequencyInformation, WholeFrequencyHopTable}
use Rattle.llrp_schema.specs.declared.kinds.Kind.TheVariants.{Parameter}
use Rattle.llrp_schema.specs.Schema.{number_of}
use Rattle.llrp_tree.specs.Tree.{Tree, MessageTree, trees}
use Rattle.llrp_power.specs.declared.entries.PowerEntry.{PowerEntry}
use Rattle.llrp_power.specs.declared.capabilities.Transmitter.{Transmitter}
use Rattle.llrp_power.specs.declared.capabilities.Offer.{Offer}
use Rattle.llrp_power.specs.declared.capabilities.Offer.TheVariants.{Transmits, TooLow}
use Rattle.llrp_power.specs.Calls.Entries.{entry_within, least_level}

-- it is of this kind
abbrev pub is_parameter : Tree → ParamKind → Bool
is_parameter t kind = number_of (Parameter t.kind) == number_of (Parameter kind)

-- the field at a place, of 16 bits or less
abbrev pub word_at : ℕ → Tree → ℕ
word_at place t = min (slice_index t.fields place) 65535

-- the parameters below the first one of a kind
abbrev pub below_first : ParamKind → List Tree → List Tree
below_first kind [] = []
below_first kind (t ∷ ts) = if is_parameter t kind then trees t.children else below_first kind ts

-- the first field of the first parameter of a kind; 0 if there is none
abbrev pub first_word : ParamKind → List Tree → ℕ
first_word kind [] = 0
first_word kind (t ∷ ts) = if is_parameter t kind then word_at 0 t else first_word kind ts

-- ---- the power table

-- a signed word of 16 bits as its distance from the least one: of hundredths of a dBm, how many it is above -327.68 dBm
abbrev pub level_of : ℕ → ℕ
level_of word = (word + 32768) % 65536

-- TransmitPowerLevelTableEntry: Index, TransmitPowerValue
abbrev pub entry_of : Tree → PowerEntry
entry_of t = record { index = word_at 0 t; level = level_of (word_at 1 t) }

-- the entries among parameters in a row, in their order
abbrev pub entries_in : List Tree → List PowerEntry
entries_in [] = []
entries_in (t ∷ ts) = if is_parameter t WholeTransmitPowerLevelTableEntry then entry_of t ∷ entries_in ts else entries_in ts

-- the parameters of the UHF band: the power table is among them
abbrev pub band_of : MessageTree → List Tree
band_of m = below_first WholeUhfBandCapabilities (below_first WholeRegulatoryCapabilities (trees m.children))

-- ---- RFTransmitter

-- FrequencyInformation has Hopping as its first field
abbrev pub hops : List Tree → Bool
hops band = first_word WholeFrequencyInformation band == 1

-- HopTableID of the first FrequencyHopTable
abbrev pub hop_table : List Tree → ℕ
hop_table band = first_word WholeFrequencyHopTable (below_first WholeFrequencyInformation band)

-- the first hop table where the reader hops, and channel 1 where it does not
abbrev pub transmitter_of : List Tree → PowerEntry → Transmitter
transmitter_of band entry =
    if hops band then record { hop_table_id = hop_table band; channel_index = 0; transmit_power = entry.index }
    else record { hop_table_id = 0; channel_index = 1; transmit_power = entry.index }

-- ---- what is offered

abbrev pub offer_of : List Tree → Option PowerEntry → Offer
offer_of band (Some entry) = Transmits (transmitter_of band entry)
offer_of band None = TooLow (least_level (entries_in band))

-- to who wants at most this power, the entry with the greatest power that is not above it
abbrev pub offer_in : MessageTree → (most : ℕ) → Offer
offer_in m most = offer_of (band_of m) (entry_within most (entries_in (band_of m)))
