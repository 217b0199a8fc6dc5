pub mod Blocks
pub mod DigestBytes
pub mod RipemdBlocks
