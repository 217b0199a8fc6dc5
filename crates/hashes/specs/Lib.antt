pub mod Blocks
pub mod Digests
pub mod Hmac
pub mod Ripemd160
